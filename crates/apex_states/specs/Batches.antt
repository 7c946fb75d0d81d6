-- Copies of states.
use Rattle.std.specs.Prelude.{◌≡◌, ℕ, ◌+◌, List, [], length, slice_get, Some}
use Rattle.apex_states.specs.States.{Reached}

-- the place of the first state, how many words a state has, and the states
pub record Copies : Type 0 where
  pub first : ℕ
  pub width : ℕ
  pub states : List (List ℕ)

-- no states yet
abbrev pub no_copies : ℕ → Copies
no_copies width = record { first = 0; width = width; states = [] }

-- the states are those of the places from `from` on and before `limit`
pub record IsCopied (reached : Reached) (from limit : ℕ) (copies : Copies) : Type 0 where
  pub first : copies.first ≡ from
  pub width : copies.width ≡ reached.width
  pub whole : from + length copies.states ≡ limit
  pub same : (at : ℕ) (k : List ℕ) → slice_get copies.states at ≡ Some k
      → slice_get reached.states (from + at) ≡ Some k
