-- The numbers of notes, which grow.
use Rattle.std.proofs.Common.{◌≡◌, ℕ, ◌+◌, ◌<◌, ◌≤◌, ◌⊎◌, ◌==◌, ◌&&◌, Bool, true, false, List, [], ◌∷◌, ◌++◌, refl, ap, sym, ◌∙◌, inl, inr, arith, if◌then◌else◌, is_none}
use Rattle.std.proofs.lemmas.Bool.Decides.{nat_tests}
use mathlib.Core.List.{IsPrefix}
use Rattle.std.proofs.lemmas.List.Sums.{sum_by-append}
use Rattle.std.specs.List.{count_by}
use Rattle.apex_receipts.specs.declared.law.Note.{Note}
use Rattle.apex_receipts.specs.Notes.{IsFair, entries_of, ends, is_by, is_end, is_for, keys_after, next_keys, said, written}

-- 1 if the test passes, else 0
abbrev pub one_if : Bool → ℕ
one_if b = if b then 1 else 0

pub count_append : {A : Type 0} (p : A → Bool) (xs ys : List A) → count_by p (xs ++ ys) ≡ count_by p xs + count_by p ys
count_append p xs ys = sum_by-append (λ x. one_if (p x)) xs ys

pub count_cons : {A : Type 0} (p : A → Bool) (x : A) (xs : List A) → count_by p (x ∷ xs) ≡ one_if (p x) + count_by p xs
count_cons p x xs =
    let one : count_by p (x ∷ []) ≡ one_if (p x) = omega arith in
    let all : count_by p (x ∷ xs) ≡ count_by p (x ∷ []) + count_by p xs = count_append p (x ∷ []) xs in
    all ∙ ap (λ (k : ℕ). k + count_by p xs) one

-- a note of speaker o counts as one that it has said
pub said_yes : (o : ℕ) (n : Note) (notes : List Note) → (n.by == o) ≡ true → said o (n ∷ notes) ≡ 1 + said o notes
said_yes o n notes is = omega (arith, count_cons (is_by o) n notes, ap one_if is)

pub said_no : (o : ℕ) (n : Note) (notes : List Note) → (n.by == o) ≡ false → said o (n ∷ notes) ≡ said o notes
said_no o n notes is = omega (arith, count_cons (is_by o) n notes, ap one_if is)

-- a speaker that writes nothing keeps its next pen
pub silent_keys : (o : ℕ) (keys : ℕ → ℕ) (notes : List Note) → said o notes ≡ 0 → keys_after keys notes o ≡ keys o
silent_keys o keys [] silent = refl
silent_keys o keys (n ∷ notes) silent = at (silent_keys o (next_keys keys n) notes) (n.by == o) refl where
  at : (said o notes ≡ 0 → keys_after (next_keys keys n) notes o ≡ next_keys keys n o)
      → (b : Bool) → (n.by == o) ≡ b → keys_after (next_keys keys n) notes o ≡ keys o
  at more true is = absurd (omega (arith, silent, said_yes o n notes is))
  at more false is =
      let same : next_keys keys n o ≡ keys o = ap (λ (b : Bool). if b then n.key else keys o) is in
      more (omega (arith, silent, said_no o n notes is)) ∙ same

-- a speaker that writes nothing writes nothing for any speaker
pub silent_written : (l o : ℕ) (notes : List Note) → said l notes ≡ 0 → written l o notes ≡ 0
silent_written l o [] silent = refl
silent_written l o (n ∷ notes) silent = at (silent_written l o notes) (n.by == l) refl where
  at : (said l notes ≡ 0 → written l o notes ≡ 0) → (b : Bool) → (n.by == l) ≡ b → written l o (n ∷ notes) ≡ 0
  at more true is = absurd (omega (arith, silent, said_yes l n notes is))
  at more false is =
      let rest = more (omega (arith, silent, said_no l n notes is)) in
      omega (arith, count_cons (is_for l o) n notes, rest, ap (λ (b : Bool). one_if (b && n.of == o)) is)

-- and ends nothing
pub silent_ends : (l : ℕ) (notes : List Note) → said l notes ≡ 0 → ends l notes ≡ 0
silent_ends l [] silent = refl
silent_ends l (n ∷ notes) silent = at (silent_ends l notes) (n.by == l) refl where
  at : (said l notes ≡ 0 → ends l notes ≡ 0) → (b : Bool) → (n.by == l) ≡ b → ends l (n ∷ notes) ≡ 0
  at more true is = absurd (omega (arith, silent, said_yes l n notes is))
  at more false is =
      let rest = more (omega (arith, silent, said_no l n notes is)) in
      omega (arith, count_cons (is_end l) n notes, rest, ap (λ (b : Bool). one_if (b && is_none n.entry)) is)

-- and no entry
pub silent_entries : (l : ℕ) (notes : List Note) → said l notes ≡ 0 → entries_of l notes ≡ []
silent_entries l [] silent = refl
silent_entries l (n ∷ notes) silent = at (silent_entries l notes) (n.by == l) refl where
  at : (said l notes ≡ 0 → entries_of l notes ≡ []) → (b : Bool) → (n.by == l) ≡ b → entries_of l (n ∷ notes) ≡ []
  at more true is = absurd (omega (arith, silent, said_yes l n notes is))
  at more false is =
      let rest = more (omega (arith, silent, said_no l n notes is)) in rw is rest

-- one note more
pub said_snoc : (o : ℕ) (log : List Note) (n : Note) → said o (log ++ n ∷ []) ≡ said o log + one_if (n.by == o)
said_snoc o log n = omega (arith, count_append (is_by o) log (n ∷ []), count_cons (is_by o) n [])

pub written_snoc : (l o : ℕ) (log : List Note) (n : Note)
    → written l o (log ++ n ∷ []) ≡ written l o log + one_if (n.by == l && n.of == o)
written_snoc l o log n = omega (arith, count_append (is_for l o) log (n ∷ []), count_cons (is_for l o) n [])

-- a note that is for its own speaker, or for one that has said more, leaves the notes fair
pub fair_snoc : (log : List Note) (n : Note) → IsFair log → (n.of ≡ n.by) ⊎ (written n.by n.of log < said n.of log)
    → IsFair (log ++ n ∷ [])
fair_snoc log n fair may l o = at (n.by == l) refl (n.of == o) refl may where
  at : (b : Bool) → (n.by == l) ≡ b → (c : Bool) → (n.of == o) ≡ c → (n.of ≡ n.by) ⊎ (written n.by n.of log < said n.of log)
      → written l o (log ++ n ∷ []) ≤ said o (log ++ n ∷ [])
  at true is true for (inl own) =
      let by : n.by ≡ o = sym own ∙ grind (arith, nat_tests) in
      let said_too : (n.by == o) ≡ true = grind (arith, nat_tests) in
      let added : one_if (n.by == l && n.of == o) ≡ 1 = rw (is, for) refl in
      omega (arith, fair l o, written_snoc l o log n, added, said_snoc o log n, ap one_if said_too)
  at true is true for (inr less) =
      let by : n.by ≡ l = grind (arith, nat_tests) in
      let of : n.of ≡ o = grind (arith, nat_tests) in
      let less' : written l o log < said o log = rw (sym by, sym of) less in
      let added : one_if (n.by == l && n.of == o) ≡ 1 = rw (is, for) refl in
      omega (arith, less', written_snoc l o log n, added, said_snoc o log n)
  at true is false for may' =
      let added : one_if (n.by == l && n.of == o) ≡ 0 = rw (is, for) refl in
      omega (arith, fair l o, written_snoc l o log n, added, said_snoc o log n)
  at false is c for may' =
      let added : one_if (n.by == l && n.of == o) ≡ 0 = rw is refl in
      omega (arith, fair l o, written_snoc l o log n, added, said_snoc o log n)

-- a speaker that has said n notes has said no fewer in a longer log
pub said_grows : (o : ℕ) (first log : List Note) → IsPrefix first log → said o first ≤ said o log
said_grows o first log begins =
    omega (arith, ap (λ (l : List Note). said o l) begins.1, count_append (is_by o) first begins.0)
