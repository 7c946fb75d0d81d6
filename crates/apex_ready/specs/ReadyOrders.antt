-- The ready orders: a list for each core and priority, and a mark for each list that is not empty.
use Rattle.std.specs.Prelude.{◌≡◌, ℕ, ◌+◌, ◌*◌, ◌/◌, ◌%◌, ◌<◌, Bool, true, false, ◌==◌, List, slice_index_or, None, Some, is_some}
use Rattle.std.specs.Int.{bit_at}
use Rattle.apex_links.specs.declared.numbers.TheConstants.{PRIORITIES, READY_LISTS}
use Rattle.apex_links.specs.Neighbours.{first_of}
use Rattle.apex_links.specs.Links.{Links, list_at}

-- the number of the ready list of a core and a priority
abbrev pub ready_list : ℕ → ℕ → ℕ
ready_list core priority = PRIORITIES * core + priority

-- list l is marked: its bit is set
abbrev pub is_marked : List ℕ → ℕ → Bool
is_marked words l = bit_at (slice_index_or words (l / 64) 0) (l % 64) == 1

-- bit j of a word is set, and no higher one
pub record IsHighestBit (word j : ℕ) : Type 0 where
  pub place : j < 64
  pub set : bit_at word j ≡ 1
  pub above : (i : ℕ) → j < i → bit_at word i ≡ 0

-- the lists that are not empty are marked, and no others
abbrev pub AreMarked : List ℕ → Links → Type 0
AreMarked words links =
    (l : ℕ) → l < READY_LISTS → is_marked words l ≡ is_some (first_of (list_at links l))

-- no list of the core is marked
abbrev pub IsUnmarked : List ℕ → ℕ → Type 0
IsUnmarked words core = (p : ℕ) → p < PRIORITIES → is_marked words (ready_list core p) ≡ false

-- the list of priority p is marked, and that of no higher one
pub record IsHighest (words : List ℕ) (core p : ℕ) : Type 0 where
  pub known : p < PRIORITIES
  pub marked : is_marked words (ready_list core p) ≡ true
  pub highest : (q : ℕ) → p < q → q < PRIORITIES → is_marked words (ready_list core q) ≡ false

-- no process is ready on the core
abbrev pub IsIdle : Links → ℕ → Type 0
IsIdle links core = (p : ℕ) → p < PRIORITIES → first_of (list_at links (ready_list core p)) ≡ None

-- process n is the first of a priority of the core, and no process of a higher one is ready there
pub record IsTop (links : Links) (core n : ℕ) : Type 0 where
  pub priority : ℕ
  pub known : priority < PRIORITIES
  pub front : first_of (list_at links (ready_list core priority)) ≡ Some n
  pub highest : (q : ℕ) → priority < q → q < PRIORITIES
      → first_of (list_at links (ready_list core q)) ≡ None
