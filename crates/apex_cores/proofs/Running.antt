-- A worker goes on, from event to event.
use Rattle.std.proofs.Common.{◌≡◌, ℕ, zero, suc, ◌+◌, ◌<◌, true, false, List, [], ◌∷◌, ◌++◌, length, refl, ap, sym, ◌∙◌, arith, length-append, append_assoc, append-nil}
use Rattle.std.specs.List.{All}
use Rattle.std.proofs.lemmas.List.Elements.{All-append}
use Rattle.apex_types.specs.declared.entries.Entry.{Entry}
use Rattle.apex_receipts.specs.Receipts.{Confirmed, Spoken, told_full, with_entry}
use Rattle.apex_cores.specs.Runs.{HasMade, HasRun, HasTicked, IsLast, IsTickOfOne}

-- n entries were made so far, and no full history was met
pub record IsUnderway (before : Spoken) (count : ℕ) (after : Spoken) : Type 0 where
  pub entries : List Entry
  pub made : HasMade before entries after
  pub counted : length entries ≡ count
  pub told : after.told ≡ before.told

-- and each was a tick of 1
pub record IsTicking (before : Spoken) (count : ℕ) (after : Spoken) : Type 0 where
  pub underway : IsUnderway before count after
  pub ones : All IsTickOfOne underway.entries

unfoldable pub none_yet : (s : Spoken) → IsUnderway s 0 s
none_yet s = record { entries = []; made = record { who = refl; own = sym (append-nil s.own) }; counted = refl; told = refl }

unfoldable pub one_more : (before s : Spoken) (count : ℕ) (e : Entry) → IsUnderway before count s → IsUnderway before (count + 1) (with_entry s e)
one_more before s count e u = record {
  entries = u.entries ++ e ∷ [];
  made = record { who = u.made.who; own = ap (λ (es : List Entry). es ++ e ∷ []) u.made.own ∙ append_assoc before.own u.entries (e ∷ []) };
  counted = length-append u.entries (e ∷ []) ∙ ap (λ (k : ℕ). k + 1) u.counted;
  told = u.told;
}

pub whole : (before after : Spoken) (count : ℕ) → IsUnderway before count after → HasRun before count after count false
whole before after count u = record {
  entries = u.entries;
  made = u.made;
  counted = u.counted;
  stopped = record { whole = λ _. (refl, u.told); cut = λ no_cut. absurd (cc) };
}

pub cut : (before after : Spoken) (count wanted : ℕ) → count < wanted → IsUnderway before count after → HasRun before wanted (told_full after) count true
cut before after count wanted less u = record {
  entries = u.entries;
  made = record { who = u.made.who; own = u.made.own };
  counted = u.counted;
  stopped = record { whole = λ no_whole. absurd (cc); cut = λ _. (less, refl) };
}

pub no_tick_yet : (s : Spoken) → IsTicking s 0 s
unfolding none_yet
no_tick_yet s = record { underway = none_yet s; ones = λ k d below. absurd (omega arith) }

pub tick_more : (before s : Spoken) (count : ℕ) (e : Entry) → IsTickOfOne e → IsTicking before count s → IsTicking before (count + 1) (with_entry s e)
unfolding one_more
tick_more before s count e one t = record {
  underway = one_more before s count e t.underway;
  ones = All-append IsTickOfOne t.underway.entries (e ∷ []) t.ones (only e one);
} where
  only : (e : Entry) → IsTickOfOne e → All IsTickOfOne (e ∷ [])
  only e one zero d below = one
  only e one (suc k) d below = absurd (omega arith)

pub whole_ticks : (before after : Spoken) (count : ℕ) → IsTicking before count after → HasTicked before count after count false
unfolding whole
whole_ticks before after count t = record { ran = whole before after count t.underway; ones = t.ones }

pub cut_ticks : (before after : Spoken) (count wanted : ℕ) → count < wanted → IsTicking before count after → HasTicked before wanted (told_full after) count true
unfolding cut
cut_ticks before after count wanted less t = record { ran = cut before after count wanted less t.underway; ones = t.ones }

pub last_made : (s : Spoken) (r : Confirmed) → r.place ≡ length s.own + 1 → IsLast (with_entry s r.entry) r
last_made s r place = record { before = s.own; last = refl; place = place ∙ sym (length-append s.own (r.entry ∷ [])) }
