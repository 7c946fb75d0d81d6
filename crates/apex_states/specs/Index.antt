-- The index of the states: a list of cells, each with the place of a state or none.
use Rattle.std.specs.Prelude.{◌≡◌, ◌≢◌, ℕ, ◌+◌, ◌-◌, ◌*◌, ◌/◌, ◌%◌, ◌^◌, ◌<◌, ◌≤◌, ◌==◌, nat_lt, if◌then◌else◌, bit_xor, zero, suc, get_or, List, [], ◌∷◌, drop, length, map, replicate, slice_get, vec_capacity, Option, Some, None}
use Rattle.std.specs.List.{fold}
use Rattle.apex_states.specs.declared.index.Probe.{Probe}
use Rattle.apex_states.specs.declared.index.Probe.TheVariants.{At, Nowhere}
use Rattle.apex_states.specs.declared.index.Index.{Index}
use Rattle.apex_states.specs.declared.index.Slot.{Slot}
use Rattle.apex_states.specs.declared.index.TheConstants.{FACTOR}

-- the place in a slot, if any
abbrev pub place_in : Slot → Option ℕ
place_in slot = if slot.code == 0 then None else Some (slot.code - 1)

-- the cells of an index
abbrev pub cells_of : Index → List (Option ℕ)
cells_of index = map place_in index.slots.items

-- vacant cells alone, and memory for as many as this many states need
pub record IsStart (index : Index) (room : ℕ) : Type 0 where
  pub some : 0 < length index.slots.items
  pub vacant : cells_of index ≡ replicate (length index.slots.items) None
  pub memory : 2 * room + 1 ≤ vec_capacity index.slots

-- the hash so far and one more word
abbrev pub mixed : ℕ → ℕ → ℕ
mixed hash word = (bit_xor hash word * FACTOR) % 2 ^ 64

-- the hash of the four words from this place on
abbrev pub hashed_four : List ℕ → ℕ → ℕ
hashed_four words place =
    let two = mixed (get_or words place 0) (get_or words (place + 1) 0) in
    let three = mixed two (get_or words (place + 2) 0) in
    mixed three (get_or words (place + 3) 0)

-- the hash of this many times four words
abbrev pub hashed : List ℕ → ℕ → ℕ
hashed words zero = 0
hashed words (suc fours) = mixed (hashed words fours) (hashed_four words (4 * fours))

-- the hash of all words: they are taken by fours, and then those that are left
abbrev pub hash_of : List ℕ → ℕ
hash_of words = fold mixed (hashed words (length words / 4)) (drop (4 * (length words / 4)) words)

-- the slot at which the search for a state begins: the hash is a part of 2 ^ 64, and the slot the same
-- part of all slots
unfoldable pub home_of : ℕ → List ℕ → ℕ
home_of size words = hash_of words * size / 2 ^ 64

-- the slot a number of steps after this one; after the last slot comes the first
abbrev pub after : ℕ → ℕ → ℕ → ℕ
after size slot steps =
    if nat_lt steps (size - slot) then slot + steps else steps - (size - slot)

-- how many of the cells are taken
abbrev pub taken_in : List (Option ℕ) → ℕ
taken_in [] = 0
taken_in (None ∷ cells) = taken_in cells
taken_in (Some place ∷ cells) = suc (taken_in cells)

-- the state is one of these
abbrev pub IsKnown : List (List ℕ) → List ℕ → Type 0
IsKnown states k = (place : ℕ) × (slice_get states place ≡ Some k)

module _ (cells : List (Option ℕ)) where
  -- the cell a number of steps after the home of the state
  abbrev pub cell_after : List ℕ → ℕ → ℕ
  cell_after k steps = after (length cells) (home_of (length cells) k) steps

  -- a walk over taken cells from the home of the state comes to its place
  pub record IsFound (k : List ℕ) (place : ℕ) : Type 0 where
    pub steps : ℕ
    pub short : steps < length cells
    pub way : (i : ℕ) → i < steps
        → (other : ℕ) × (slice_get cells (cell_after k i) ≡ Some (Some other))
    pub here : slice_get cells (cell_after k steps) ≡ Some (Some place)

  -- each state is found, the cells have places of states alone, and as many are taken as there are
  -- states
  pub record IsIndexed (states : List (List ℕ)) : Type 0 where
    pub found : (place : ℕ) (k : List ℕ) → slice_get states place ≡ Some k → IsFound k place
    pub known : (cell place : ℕ) → slice_get cells cell ≡ Some (Some place) → place < length states
    pub taken : taken_in cells ≡ length states

  -- the cell is free, and all from the home of the state up to it are taken
  pub record IsOpen (k : List ℕ) (cell : ℕ) : Type 0 where
    pub steps : ℕ
    pub short : steps < length cells
    pub is : cell ≡ cell_after k steps
    pub free : slice_get cells cell ≡ Some None
    pub way : (i : ℕ) → i < steps
        → (other : ℕ) × (slice_get cells (cell_after k i) ≡ Some (Some other))

  -- another state has its place in this cell
  pub record IsOther (states : List (List ℕ)) (k : List ℕ) (cell : ℕ) : Type 0 where
    pub place : ℕ
    pub other : List ℕ
    pub here : slice_get cells cell ≡ Some (Some place)
    pub there : slice_get states place ≡ Some other
    pub differs : other ≢ k

  -- the cell is free, all from the home of the state up to it have other states, and the state is
  -- none of these
  pub record IsVacant (states : List (List ℕ)) (k : List ℕ) (cell : ℕ) : Type 0 where
    pub steps : ℕ
    pub short : steps < length cells
    pub is : cell ≡ cell_after k steps
    pub free : slice_get cells cell ≡ Some None
    pub way : (i : ℕ) → i < steps → IsOther states k (cell_after k i)
    pub new : IsKnown states k → ⊥

  -- the row is at this place, or is none of the rows and has a vacant cell
  abbrev pub IsFoundAmong : List (List ℕ) → List ℕ → Probe → Type 0
  IsFoundAmong states k (At place) = slice_get states place ≡ Some k
  IsFoundAmong states k (Nowhere cell) = IsVacant states k cell
