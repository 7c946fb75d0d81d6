-- The front that a partition shows.
use Rattle.std.proofs.Common.{◌≡◌, ℕ, zero, suc, ◌<◌, ◌≤◌, All, List, [], ◌∷◌, ◌++◌, Option, None, Some, IfSome, MatchOption, subst, arith}
use Rattle.apex_types.specs.declared.limits.TheConstants.{MOST_PROCESSES}
use Rattle.apex_board.specs.Fronts.{IsSmallId}

pub all_more : {A : Type 0} (Q : A → Type 0) (xs : List A) (x : A) → All Q xs → Q x → All Q (xs ++ x ∷ [])
all_more Q [] x all here zero d below = here
all_more Q [] x all here (suc k) d below = absurd (omega (arith, below))
all_more Q (y ∷ ys) x all here zero d below = all 0 d (omega arith)
all_more Q (y ∷ ys) x all here (suc k) d below =
    all_more Q ys x (λ j e b. all (suc j) e (omega (arith, b))) here k d (omega (arith, below))

-- the number of a process of a table fits into a byte
pub small_choice : (processes : ℕ) (running : Option ℕ) → IfSome running (λ p. p < processes) → processes ≤ MOST_PROCESSES → IfSome running IsSmallId
small_choice processes None known few = tt
small_choice processes (Some p) known few = omega (arith, known, few)

-- a fact of an option that has a value
pub some_case : {A : Type 0} (o : Option A) (x : A) (N : Type 0) (Q : A → Type 0) → o ≡ Some x → MatchOption o N Q → Q x
some_case {A} o x N Q is said = subst (λ (p : Option A). MatchOption p N Q) is said
