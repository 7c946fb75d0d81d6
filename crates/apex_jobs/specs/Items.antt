-- What is said of each item of a list, by its place. The first item has a place that is given.
use Rattle.std.specs.Prelude.{◌≡◌, ℕ, ◌+◌, List, length, Some, slice_get}

-- each item is as P says of its place
abbrev pub IsEachFrom : {X : Type 0} → (ℕ → X → Type 0) → ℕ → List X → Type 0
IsEachFrom P first items = (at : ℕ) (item : _) → slice_get items at ≡ Some item
    → P (first + at) item

-- each item has become another one, as R says of its place
pub record AreChangedFrom {X : Type 0} (R : ℕ → X → X → Type 0) (first : ℕ) (old new : List X)
    : Type 0 where
  pub count : length new ≡ length old
  pub each : (at : ℕ) (item : X) → slice_get old at ≡ Some item
      → (other : X) × (slice_get new at ≡ Some other) × R (first + at) item other
