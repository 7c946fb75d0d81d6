-- Rows of threads and of seats, each with the number of its core.
use Rattle.std.proofs.Common.{◌≡◌, ℕ, zero, suc, ◌+◌, ◌<◌, Bool, List, [], ◌∷◌, ◌++◌, length, map, refl, subst, ◌∙◌, arith}
use Rattle.std.specs.Prelude.{slice_index_or}
use Rattle.apex_types.specs.declared.entries.Who.TheVariants.{Core}
use Rattle.std.specs.List.{range_with_len}
use Rattle.apex_receipts.specs.Receipts.{Spoken, unspoken}
use Rattle.apex_partition.specs.Seats.{AreSeatsFrom}
use Rattle.apex_cores.specs.Runs.{HasRun}
use Rattle.apex_cores.specs.Threads.{EachFrom, HasWorked}

-- one more behind them, with the next number
pub each_more : {A : Type 0} (R : ℕ → A → Type 0) (number next : ℕ) (xs : List A) (x : A) → next ≡ number + length xs
    → EachFrom R number xs → R next x → EachFrom R number (xs ++ x ∷ [])
each_more R number next [] x is all here = (subst (λ k. R k x) (is ∙ omega arith) here, tt)
each_more R number next (y ∷ ys) x is all here = (all.0, each_more R (number + 1) next ys x (is ∙ omega arith) all.1 here)

-- the one at a place
pub each_at : {A : Type 0} (R : ℕ → A → Type 0) (number : ℕ) (xs : List A) (i : ℕ) (d : A) → EachFrom R number xs → i < length xs
    → R (number + i) (slice_index_or xs i d)
each_at R number [] i d all below = absurd (omega arith)
each_at R number (x ∷ xs) zero d all below = subst (λ k. R k x) (omega arith) all.0
each_at R number (x ∷ xs) (suc i) d all below =
    subst (λ k. R k (slice_index_or xs i d)) (omega arith) (each_at R (number + 1) xs i d all.1 (omega arith))

-- the seats of workers that have worked are in order
pub seated : (turns core : ℕ) (seats : List Spoken) → EachFrom (HasWorked turns) core seats → AreSeatsFrom core seats
seated turns core [] all = tt
seated turns core (s ∷ seats) all = (all.0.ran.made.who, seated turns (core + 1) seats all.1)

-- the first one of them, and the others
pub each_first : {A : Type 0} (R : ℕ → A → Type 0) (number : ℕ) (all : List A) (x : A) (rest : List A) → all ≡ x ∷ rest
    → EachFrom R number all → R number x × EachFrom R (number + 1) rest
each_first R number all x rest is each = subst (λ xs. EachFrom R number xs) is each

-- seats that have made nothing are those of their cores
pub fresh : (first n : ℕ) → EachFrom (λ (core : ℕ) (seat : Spoken). seat ≡ unspoken (Core core)) first
    (map (λ (core : ℕ). unspoken (Core core)) (range_with_len first n))
fresh first zero = tt
fresh first (suc n) = (refl, fresh (first + 1) n)

-- a core has one number
pub core_same : (a b : ℕ) → Core a ≡ Core b → a ≡ b
core_same a b same = cc same

-- a thread has done its task
pub worked_by : (will_core will_turns core turns made : ℕ) (full : Bool) (seat : Spoken) → will_core ≡ core → will_turns ≡ turns
    → HasRun (unspoken (Core will_core)) will_turns seat made full → HasWorked turns core seat
worked_by will_core will_turns core turns made full seat same_core same_turns ran = record {
  made = made;
  full = full;
  ran = subst (λ k. HasRun (unspoken (Core k)) turns seat made full) same_core
      (subst (λ t. HasRun (unspoken (Core will_core)) t seat made full) same_turns ran);
}
