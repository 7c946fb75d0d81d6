-- The scribe and a voice that have met know each other's notes.
use Rattle.std.proofs.Common.{◌≡◌, ℕ, ◌+◌, ◌≤◌, List, [], ◌∷◌, ◌++◌, length, ap, sym, ◌∙◌, subst, arith, length-append}
use mathlib.Core.List.{IsPrefix}
use Rattle.apex_types.specs.declared.entries.Entry.{Entry}
use Rattle.apex_types.specs.declared.entries.Who.{Who}
use Rattle.apex_receipts.specs.declared.law.Note.{Note}
use Rattle.apex_receipts.specs.Notes.{ends, entries_of, said}
use Rattle.apex_receipts.specs.Receipts.{IsLabelled, IsAtItsPlace, count_who, own_entries}
use Rattle.apex_receipts.specs.Rules.{HasMet, HasWritten}
use Rattle.apex_receipts.proofs.Alone.{alone_ends, alone_entries}
use Rattle.apex_receipts.proofs.Own.{count_most, own_same, own_snoc}
use Rattle.apex_receipts.proofs.Written.{entries_begin, labelled_alone, entries_snoc, ends_snoc, labelled_snoc}

module _ (l : ℕ) (voice : Who → ℕ) (who : Who) (own mine heard log : List Note) (met : HasMet l (voice who) own mine heard log) where
  -- the history that the voice had heard is a prefix of the scribe's
  met_begins : IsPrefix (entries_of l heard) (entries_of l own)
  met_begins =
      subst (λ (es : List Entry). IsPrefix (entries_of l heard) es) (alone_entries l own log met.alone) (entries_begin l heard log met.knew)

  pub met_within : length (entries_of l heard) ≤ length (entries_of l own)
  met_within = omega (arith, ap length met_begins.1, length-append (entries_of l heard) met_begins.0)

  -- the entries of the voice in the history are those that it had heard of
  pub exact : (count : ℕ) → IsLabelled l voice own → said (voice who) mine ≡ count → count ≡ count_who who (entries_of l heard)
      → own_entries who (entries_of l own) ≡ own_entries who (entries_of l heard)
  exact count labelled counts heard_all =
      own_same who (entries_of l heard) (entries_of l own) met_begins (omega (arith, labelled who, met.most, counts, heard_all))

-- the scribe wrote an entry down for a voice that had heard of `count` entries of its own: the
-- history has one entry more, and so has the voice
pub record IsRecorded (l : ℕ) (voice : Who → ℕ) (who : Who) (own heard : List Note) (count : ℕ) (e : Entry) (log : List Note) : Type 0 where
  pub entries : entries_of l log ≡ entries_of l own ++ e ∷ []
  pub labelled : IsLabelled l voice log
  pub unended : ends l log ≡ ends l own
  pub more : own_entries who (entries_of l log) ≡ own_entries who (entries_of l heard) ++ e ∷ []
  pub counted : count_who who (entries_of l log) ≡ count + 1
  pub few : count ≤ length (entries_of l heard)
  pub within : length (entries_of l heard) ≤ length (entries_of l own)
  pub stands : e.number ≡ length (entries_of l own) + 1 → IsAtItsPlace (entries_of l log) e (count + 1)

pub recorded : (l : ℕ) (voice : Who → ℕ) (who : Who) (own mine heard : List Note) (count : ℕ) (e : Entry) (log : List Note)
    → HasWritten l (voice who) own mine heard e log → e.who ≡ who → IsLabelled l voice own
    → said (voice who) mine ≡ count → count ≡ count_who who (entries_of l heard)
    → IsRecorded l voice who own heard count e log
recorded l voice who own mine heard count e log w maker labelled counts heard_all = record {
  entries = entries;
  labelled = subst (λ (m : List Note). IsLabelled l voice m) (sym w.added)
      (labelled_snoc l voice w.before w.note e w.by (w.of ∙ ap voice (sym maker)) w.entry
      (labelled_alone l voice own w.before w.met.alone labelled));
  unended = ap (λ (m : List Note). ends l m) w.added ∙ (ends_snoc l w.before w.note e w.entry ∙ alone_ends l own w.before w.met.alone);
  more = more;
  counted = omega (arith, ap length more, length-append (own_entries who (entries_of l heard)) (e ∷ []), heard_all);
  few = omega (arith, heard_all, count_most who (entries_of l heard));
  within = met_within l voice who own mine heard w.before w.met;
  stands = λ number. record {
    before = entries_of l own;
    after = [];
    parts = entries;
    at_number = number;
    at_place = omega (arith, ap (λ (o : Who). count_who o (entries_of l own)) maker, ap length before, heard_all);
  };
} where
  entries : entries_of l log ≡ entries_of l own ++ e ∷ []
  entries =
      ap (λ (m : List Note). entries_of l m) w.added
      ∙ (entries_snoc l w.before w.note e w.by w.entry
      ∙ ap (λ (es : List Entry). es ++ e ∷ []) (alone_entries l own w.before w.met.alone))

  before : own_entries who (entries_of l own) ≡ own_entries who (entries_of l heard)
  before = exact l voice who own mine heard w.before w.met count labelled counts heard_all

  more : own_entries who (entries_of l log) ≡ own_entries who (entries_of l heard) ++ e ∷ []
  more =
      ap (λ (es : List Entry). own_entries who es) entries
      ∙ (own_snoc who (entries_of l own) e maker ∙ ap (λ (es : List Entry). es ++ e ∷ []) before)
