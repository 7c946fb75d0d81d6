-- A speaker that holds its next pen knows all its notes.
use Rattle.std.proofs.Common.{◌≡◌, ℕ, ◌==◌, Bool, true, false, List, [], ◌∷◌, ◌++◌, refl, ap, sym, ◌∙◌, subst, arith}
use Rattle.std.proofs.lemmas.Bool.Decides.{nat_tests}
use Rattle.std.proofs.lemmas.List.{append-nil}
use Rattle.std.proofs.lemmas.List.Elements.{filter_map-append}
use mathlib.Core.List.{IsPrefix}
use Rattle.logbook.specs.Pages.{Cell, cell}
use Rattle.apex_types.specs.declared.entries.Entry.{Entry}
use Rattle.apex_receipts.specs.declared.law.Note.{Note}
use Rattle.apex_receipts.specs.Notes.{AllUsed, IsAlone, entries_of, entry_by, ends, is_by, is_end, is_for, key_of, keys_after, next_keys, said, written}
use Rattle.apex_receipts.proofs.Counts.{count_append, said_no, silent_ends, silent_entries, silent_keys, silent_written}
use Rattle.apex_receipts.proofs.Homes.{used_rest}

-- while the cell of its next pen isn't home a speaker writes no note
pub silent : (cells : List Cell) (o : ℕ) (keys : ℕ → ℕ) (notes : List Note) → AllUsed cells keys notes
    → (cell cells (keys o)).1 ≡ false → said o notes ≡ 0
silent cells o keys [] used away = refl
silent cells o keys (n ∷ notes) used away = at (silent cells o (next_keys keys n) notes used.1) (n.by == o) refl where
  at : ((cell cells (next_keys keys n o)).1 ≡ false → said o notes ≡ 0) → (b : Bool) → (n.by == o) ≡ b → said o (n ∷ notes) ≡ 0
  at more true is =
      let same : n.by ≡ o = grind (arith, nat_tests) in
      absurd (cc (used.0.1, away, ap (λ (k : ℕ). (cell cells (keys k)).1) same))
  at more false is =
      let same : next_keys keys n o ≡ keys o = rw is refl in
      said_no o n notes is ∙ more (ap (λ (k : ℕ). (cell cells k).1) same ∙ away)

pub alone : (cells : List Cell) (o k : ℕ) (own log : List Note) → AllUsed cells (λ (j : ℕ). j) log → IsPrefix own log
    → k ≡ key_of o own → (cell cells k).1 ≡ false → IsAlone o own log
alone cells o k own log used begins key away =
    let all : AllUsed cells (λ (j : ℕ). j) (own ++ begins.0) = subst (λ (l : List Note). AllUsed cells (λ (j : ℕ). j) l) (sym begins.1) used in
    record {
      rest = begins.0;
      parts = begins.1;
      silent = silent cells o (keys_after (λ (j : ℕ). j) own) begins.0 (used_rest cells (λ (j : ℕ). j) own begins.0 all)
          (ap (λ (j : ℕ). (cell cells j).1) (sym key) ∙ away);
    }

pub keys_append : (keys : ℕ → ℕ) (xs ys : List Note) → keys_after keys (xs ++ ys) ≡ keys_after (keys_after keys xs) ys
keys_append keys [] ys = refl
keys_append keys (n ∷ xs) ys = keys_append (next_keys keys n) xs ys

-- a speaker's knowledge of its own notes stays right
pub alone_key : (o : ℕ) (own log : List Note) → IsAlone o own log → key_of o log ≡ key_of o own
alone_key o own log a =
    ap (λ (l : List Note). key_of o l) (sym a.parts)
    ∙ (ap (λ (keys : ℕ → ℕ). keys o) (keys_append (λ (j : ℕ). j) own a.rest)
    ∙ silent_keys o (keys_after (λ (j : ℕ). j) own) a.rest a.silent)

pub alone_said : (o : ℕ) (own log : List Note) → IsAlone o own log → said o log ≡ said o own
alone_said o own log a =
    omega (arith, ap (λ (l : List Note). said o l) a.parts, count_append (is_by o) own a.rest, a.silent)

pub alone_written : (l o : ℕ) (own log : List Note) → IsAlone l own log → written l o log ≡ written l o own
alone_written l o own log a =
    omega (arith, ap (λ (m : List Note). written l o m) a.parts, count_append (is_for l o) own a.rest, silent_written l o a.rest a.silent)

pub alone_ends : (l : ℕ) (own log : List Note) → IsAlone l own log → ends l log ≡ ends l own
alone_ends l own log a =
    omega (arith, ap (λ (m : List Note). ends l m) a.parts, count_append (is_end l) own a.rest, silent_ends l a.rest a.silent)

pub alone_entries : (l : ℕ) (own log : List Note) → IsAlone l own log → entries_of l log ≡ entries_of l own
alone_entries l own log a =
    ap (λ (m : List Note). entries_of l m) (sym a.parts)
    ∙ (filter_map-append (entry_by l) own a.rest
    ∙ (ap (λ (es : List Entry). entries_of l own ++ es) (silent_entries l a.rest a.silent) ∙ append-nil (entries_of l own)))
