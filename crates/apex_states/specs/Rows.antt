-- Rows of words, as contracts see them and as they are packed.
use Rattle.std.specs.Prelude.{◌≡◌, ℕ, zero, suc, ◌*◌, ◌≤◌, List, [], ◌∷◌, length, take, drop}

-- how many words a row has, for how many rows there is room, and the rows
pub record Packed : Type 0 where
  pub width : ℕ
  pub room : ℕ
  pub rows : List (List ℕ)

-- no rows yet
abbrev pub no_rows : ℕ → ℕ → Packed
no_rows width room = record { width = width; room = room; rows = [] }

-- the rows of this width in the words, as many as this count
abbrev pub rows_in : ℕ → ℕ → List ℕ → List (List ℕ)
rows_in width zero words = []
rows_in width (suc count) words = take width words ∷ rows_in width count (drop width words)

-- the words are those of the rows, and room is taken for the rest
pub record IsPacked (width room count : ℕ) (words : List ℕ) (capacity : ℕ) : Type 0 where
  pub whole : length words ≡ count * width
  pub within : count ≤ room
  pub reserved : room * width ≤ capacity
