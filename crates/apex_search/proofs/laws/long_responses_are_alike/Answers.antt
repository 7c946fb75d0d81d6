use Rattle.std.proofs.Common.{◌≡◌, ℕ, ◌+◌, ◌<◌, ap, arith, min, nat_le}
use Rattle.apex_search.proofs.laws.long_responses_are_alike.Goals as goal

pub long : (ticks period : ℕ) → period < ticks → min ticks (period + 1) ≡ min (period + 1) (period + 1)
long ticks period more = omega arith

pub returns : goal.returns
returns c ticks period age more = ap (λ (n : ℕ). nat_le n age) (long ticks period more)
