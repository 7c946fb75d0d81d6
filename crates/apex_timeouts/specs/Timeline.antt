-- Processes in the order of their instants.
use Rattle.std.specs.Prelude.{◌≡◌, ◌≢◌, ℕ, nat_lt, Bool, true, ◌==◌, ◌&&◌, ◌||◌, if◌then◌else◌, List, [], length, replicate, slice_index_or, slice_set, Option, None, Some, option_map, ◌<◌}
use Rattle.apex_links.specs.Neighbours.{stands_in, first_of, IsDistinct}
use Rattle.apex_links.specs.Links.{Links, list_at, without}
use Rattle.apex_links.specs.Placing.{placed}
use Rattle.apex_links.specs.Sorted.{IsSorted}

-- a line as a contract sees it: its processes, the soonest first, and the instant of each process
pub record Times : Type 0 where
  pub order : List ℕ
  pub instants : List ℕ

-- an empty line for n processes
abbrev pub empty_line : ℕ → Times
empty_line processes = record { order = []; instants = replicate processes 0 }

-- the instant of process p
abbrev pub instant_of : List ℕ → ℕ → ℕ
instant_of instants p = slice_index_or instants p 0

-- process q comes later than process p at this instant: its own is later, or the same, and it has
-- the higher number
abbrev pub is_later : List ℕ → ℕ → ℕ → ℕ → Bool
is_later instants p instant q =
    nat_lt instant (instant_of instants q) || instant == instant_of instants q && nat_lt p q

-- process q comes later than process p
abbrev pub is_after : List ℕ → ℕ → ℕ → Bool
is_after instants p q = is_later instants p (instant_of instants p) q

-- each of these comes before those behind it
abbrev pub IsOrdered : List ℕ → List ℕ → Type 0
IsOrdered instants ps = IsSorted (is_after instants) ps

-- process p, which is not on the line, has this instant from now on
abbrev pub armed : Times → ℕ → ℕ → Times
armed times p instant =
    record {
      order = placed (is_later times.instants p instant) p times.order;
      instants = slice_set times.instants p instant;
    }

-- process p is not on the line from now on
abbrev pub disarmed : Times → ℕ → Times
disarmed times p = record times { order = without p times.order }

-- the instant of process p, or none if it is not on the line
abbrev pub instant_on : Times → ℕ → Option ℕ
instant_on times p = if stands_in p times.order then Some (instant_of times.instants p) else None

-- process p has this instant from now on, or none, and the others keep theirs
pub record IsReset (old new : Times) (p : ℕ) (instant : Option ℕ) : Type 0 where
  pub here : instant_on new p ≡ instant
  pub others : (q : ℕ) → q ≢ p → instant_on new q ≡ instant_on old q
  pub count : length new.instants ≡ length old.instants

-- the soonest instant
abbrev pub next_of : Times → Option ℕ
next_of times = option_map (instant_of times.instants) (first_of times.order)

-- this process, if there is one, and if this is its instant
abbrev pub only_at : List ℕ → ℕ → Option ℕ → Option ℕ
only_at instants instant None = None
only_at instants instant (Some p) = if instant_of instants p == instant then Some p else None

-- the first process on the line, if this is its instant
abbrev pub due_at : Times → ℕ → Option ℕ
due_at times instant = only_at times.instants instant (first_of times.order)

-- this process, if there is one, is not on the line from now on
abbrev pub disarmed_one : Times → Option ℕ → Times
disarmed_one times None = times
disarmed_one times (Some p) = disarmed times p

-- the line without its first process, if this is its instant
abbrev pub without_due_at : Times → ℕ → Times
without_due_at times instant = disarmed_one times (due_at times instant)

-- the processes are in the order of their instants, each has one, and none is there twice
pub record IsTimed (times : Times) : Type 0 where
  pub ordered : IsOrdered times.instants times.order
  pub distinct : IsDistinct times.order
  pub known : (p : ℕ) → stands_in p times.order ≡ true → p < length times.instants

-- a link set of one list holds the processes in the order of their instants
pub record AreTimed (links : Links) (instants : List ℕ) : Type 0 where
  pub one : length links.lists ≡ 1
  pub all : links.processes ≡ length instants
  pub ordered : IsOrdered instants (list_at links 0)
