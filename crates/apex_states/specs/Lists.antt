-- What is said of all members of a list, and of a list that goes on another.
use Rattle.std.specs.Prelude.{◌≡◌, ℕ, ◌≤◌, List, length, Some, slice_get}

-- each member is as P says
abbrev pub AllAre : {K : Type 0} → (K → Type 0) → List K → Type 0
AllAre P states = (place : ℕ) (k : _) → slice_get states place ≡ Some k → P k

-- what is in the old list is at the same place of the new one
pub record IsFront {X : Type 0} (old new : List X) : Type 0 where
  pub same : (place : ℕ) (x : X) → slice_get old place ≡ Some x → slice_get new place ≡ Some x
  pub longer : length old ≤ length new
