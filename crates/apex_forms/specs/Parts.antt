-- The words of one part of a situation among all of them.
use Rattle.std.specs.Prelude.{◌≡◌, ℕ, ◌+◌, List, ◌++◌, length, take}

-- the part was put at a place, and the words before it are as they were; `end` is the place behind it
pub record IsPut (part : List ℕ) (at : ℕ) (old : List ℕ) (end : ℕ) (new : List ℕ) : Type 0 where
  pub place : end ≡ at + length part
  pub words : take end new ≡ take at old ++ part
  pub many : length new ≡ length old

-- the two parts were put at a place, one behind the other
pub record ArePut (one other : List ℕ) (at : ℕ) (old new : List ℕ) : Type 0 where
  pub mid : ℕ
  pub end : ℕ
  pub between : List ℕ
  pub first : IsPut one at old mid between
  pub second : IsPut other mid between end new
