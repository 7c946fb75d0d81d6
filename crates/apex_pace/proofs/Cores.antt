-- What holds of each core.
use Rattle.std.proofs.Common.{◌≡◌, ℕ, zero, suc, ◌<◌, Bool, true, inl, inr, refl, arith, subst, sym}
use Rattle.std.proofs.lemmas.Bool.{and_from, and_parts, cases_eq}
use Rattle.apex_pace.specs.Pace.{all_cores}

-- each core below n passes
pub all_at : (passes : ℕ → Bool) (n core : ℕ) → all_cores passes n ≡ true → core < n → passes core ≡ true
all_at passes (suc n) core all below =
    let parts = and_parts (passes n) (all_cores passes n) all in
    elim (cases_eq core n) [
      | inl same ↦ subst (λ (c : ℕ). passes c ≡ true) (sym same) parts.0
      | inr other ↦ all_at passes n core parts.1 (omega arith)
    ]
all_at passes zero core all below = absurd (omega arith)

pub all_from : (passes : ℕ → Bool) (n : ℕ) → ((core : ℕ) → core < n → passes core ≡ true) → all_cores passes n ≡ true
all_from passes zero each = refl
all_from passes (suc n) each =
    and_from (passes n) (all_cores passes n) (each n (omega arith))
    (all_from passes n (λ core below. each core (omega arith)))

-- if each core that passes one test passes another one, all do
pub all_also : (passes also : ℕ → Bool) (n : ℕ) → ((core : ℕ) → passes core ≡ true → also core ≡ true)
    → all_cores passes n ≡ true → all_cores also n ≡ true
all_also passes also n each all = all_from also n (λ core below. each core (all_at passes n core all below))
