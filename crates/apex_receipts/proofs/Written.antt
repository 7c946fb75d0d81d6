-- The entries that the scribe wrote down.
use Rattle.std.proofs.Common.{◌≡◌, ℕ, ◌≤◌, ◌==◌, ◌&&◌, Bool, true, false, List, [], ◌∷◌, ◌++◌, length, refl, ap, sym, ◌∙◌, arith, Some, None, length-append, ◌⊎◌, inl, inr}
use Rattle.std.proofs.lemmas.List.{append-nil}
use Rattle.std.proofs.lemmas.List.Elements.{filter_map-append}
use Rattle.std.proofs.lemmas.Bool.Decides.{nat_tests}
use mathlib.Core.List.{IsPrefix}
use Rattle.apex_types.specs.declared.entries.Entry.{Entry}
use Rattle.apex_types.specs.declared.entries.Who.{Who}
use Rattle.apex_receipts.specs.declared.law.Note.{Note}
use Rattle.apex_receipts.specs.Notes.{IsAlone, ends, entries_of, entry_by, is_end, is_for, written}
use Rattle.apex_receipts.specs.Receipts.{IsLabelled, count_who, is_who, own_entries}
use Rattle.apex_receipts.proofs.Alone.{alone_entries, alone_written}
use Rattle.apex_receipts.proofs.Prefixes.{prefix_either}
use Rattle.apex_receipts.proofs.Counts.{count_append, count_cons, one_if, written_snoc}
use Rattle.apex_receipts.proofs.Own.{who_append, is_who_same, own_snoc}

-- the entries of a prefix are a prefix of the entries
pub entries_begin : (l : ℕ) (first log : List Note) → IsPrefix first log → IsPrefix (entries_of l first) (entries_of l log)
entries_begin l first log begins =
    (entries_of l begins.0, sym (filter_map-append (entry_by l) first begins.0) ∙ ap (λ (m : List Note). entries_of l m) begins.1)

pub written_begins : (l o : ℕ) (first log : List Note) → IsPrefix first log → written l o first ≤ written l o log
written_begins l o first log begins =
    omega (arith, ap (λ (m : List Note). written l o m) begins.1, count_append (is_for l o) first begins.0)

pub ends_begin : (l : ℕ) (first log : List Note) → IsPrefix first log → ends l first ≤ ends l log
ends_begin l first log begins =
    omega (arith, ap (λ (m : List Note). ends l m) begins.1, count_append (is_end l) first begins.0)

-- the scribe's own notes stay labelled while it is alone
pub labelled_alone : (l : ℕ) (voice : Who → ℕ) (own log : List Note) → IsAlone l own log → IsLabelled l voice own → IsLabelled l voice log
labelled_alone l voice own log a labelled who =
    omega (arith, labelled who, ap (λ (es : List Entry). count_who who es) (alone_entries l own log a), alone_written l (voice who) own log a)

-- an entry that was written down is the last one
pub entries_snoc : (l : ℕ) (log : List Note) (n : Note) (e : Entry) → n.by ≡ l → n.entry ≡ Some e
    → entries_of l (log ++ n ∷ []) ≡ entries_of l log ++ e ∷ []
entries_snoc l log n e by entry =
    let is : (n.by == l) ≡ true = grind (arith, nat_tests) in
    let one : entries_of l (n ∷ []) ≡ e ∷ [] = rw (is, entry) refl in
    filter_map-append (entry_by l) log (n ∷ []) ∙ ap (λ (es : List Entry). entries_of l log ++ es) one

-- a note without an entry adds none
pub entries_silent : (l : ℕ) (log : List Note) (n : Note) → n.entry ≡ None → entries_of l (log ++ n ∷ []) ≡ entries_of l log
entries_silent l log n entry =
    let one : entries_of l (n ∷ []) ≡ [] = at (n.by == l) refl in
    filter_map-append (entry_by l) log (n ∷ []) ∙ (ap (λ (es : List Entry). entries_of l log ++ es) one ∙ append-nil (entries_of l log)) where
      at : (b : Bool) → (n.by == l) ≡ b → entries_of l (n ∷ []) ≡ []
      at true is = rw (is, entry) refl
      at false is = rw is refl

-- and an entry is no end
pub ends_snoc : (l : ℕ) (log : List Note) (n : Note) (e : Entry) → n.entry ≡ Some e → ends l (log ++ n ∷ []) ≡ ends l log
ends_snoc l log n e entry =
    let one : one_if (is_end l n) ≡ 0 = at (n.by == l) refl in
    omega (arith, count_append (is_end l) log (n ∷ []), count_cons (is_end l) n [], one) where
      at : (b : Bool) → (n.by == l) ≡ b → one_if (is_end l n) ≡ 0
      at true is = rw (is, entry) refl
      at false is = rw is refl

-- a note with an entry for the speaker of the entry's maker keeps the notes labelled
pub labelled_snoc : (l : ℕ) (voice : Who → ℕ) (log : List Note) (n : Note) (e : Entry) → n.by ≡ l → n.of ≡ voice e.who
    → n.entry ≡ Some e → IsLabelled l voice log → IsLabelled l voice (log ++ n ∷ [])
labelled_snoc l voice log n e by of entry labelled who = at (is_who who e.who) refl where
  at : (b : Bool) → is_who who e.who ≡ b → count_who who (entries_of l (log ++ n ∷ [])) ≤ written l (voice who) (log ++ n ∷ [])
  at true is =
      let same : who ≡ e.who = is_who_same who e.who is in
      let of_who : n.of ≡ voice who = of ∙ ap voice (sym same) in
      let by_is : (n.by == l) ≡ true = grind (arith, nat_tests) in
      let of_is : (n.of == voice who) ≡ true = grind (arith, nat_tests) in
      let one : one_if (n.by == l && n.of == voice who) ≡ 1 = rw (by_is, of_is) refl in
      omega (
        arith,
        labelled who,
        ap (λ (es : List Entry). count_who who es) (entries_snoc l log n e by entry),
        ap length (own_snoc who (entries_of l log) e (sym same)),
        length-append (own_entries who (entries_of l log)) (e ∷ []),
        written_snoc l (voice who) log n,
        one,
      )
  at false is =
      let none : count_who who (e ∷ []) ≡ 0 = rw is refl in
      omega (
        arith,
        labelled who,
        ap (λ (es : List Entry). count_who who es) (entries_snoc l log n e by entry),
        who_append who (entries_of l log) (e ∷ []),
        none,
        written_snoc l (voice who) log n,
      )

-- of two logs of the scribe, the one without an end is a prefix of the other one
pub unended_begins : (l : ℕ) (first log all : List Note) → IsPrefix first all → IsPrefix log all → ends l first ≡ 0 → 1 ≤ ends l log
    → IsPrefix (entries_of l first) (entries_of l log)
unended_begins l first log all begins log_begins unended ended = at (prefix_either first log all begins log_begins) where
  at : IsPrefix first log ⊎ IsPrefix log first → IsPrefix (entries_of l first) (entries_of l log)
  at (inl shorter) = entries_begin l first log shorter
  at (inr longer) = absurd (omega (arith, ends_begin l log first longer, unended, ended))

-- a note of the scribe without an entry ends its history
pub ended : (l : ℕ) (log : List Note) (n : Note) → n.by ≡ l → n.entry ≡ None → 1 ≤ ends l (log ++ n ∷ [])
ended l log n by entry =
    let is : (n.by == l) ≡ true = grind (arith, nat_tests) in
    let one : one_if (is_end l n) ≡ 1 = rw (is, entry) refl in
    omega (arith, count_append (is_end l) log (n ∷ []), count_cons (is_end l) n [], one)
