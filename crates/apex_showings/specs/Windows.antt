-- The windows of a history.
use Rattle.std.specs.Prelude.{ℕ, Bool, false, true, List, [], ◌∷◌, Option, None, Some, ◌&&◌, ◌||◌, nat_le, length}
use Rattle.std.specs.List.{filter}
use Rattle.apex_machine.specs.Machine.{Machine}
use Rattle.apex_types.specs.declared.entries.Entry.{Entry}
use Rattle.apex_showings.specs.declared.windows.Bound.{Bound}
use Rattle.apex_showings.specs.declared.windows.Bound.TheVariants as bound
use Rattle.apex_showings.specs.declared.windows.EmptyWindow.{EmptyWindow}
use Rattle.apex_showings.specs.declared.windows.EntryRange.{EntryRange}
use Rattle.apex_showings.specs.declared.windows.Window.{Window}

-- an entry is not before a bound: its number, or its time, is at least the bound's
abbrev pub is_from : Bound → Entry → Bool
is_from (bound.Entry number) entry = nat_le number entry.number
is_from (bound.Time time) entry = nat_le time entry.now

-- an entry is not behind a bound: its number, or its time, is at most the bound's
abbrev pub is_to : Bound → Entry → Bool
is_to (bound.Entry number) entry = nat_le entry.number number
is_to (bound.Time time) entry = nat_le entry.now time

-- an entry is in a window
abbrev pub is_in : Window → Entry → Bool
is_in window entry = is_from window.first entry && is_to window.last entry

-- a bound is a time
abbrev pub is_time : Bound → Bool
is_time (bound.Entry number) = false
is_time (bound.Time time) = true

abbrev pub has_time : Window → Bool
has_time window = is_time window.first || is_time window.last

-- the entries of a history that are in a window
abbrev pub entries_in : Window → List Entry → List Entry
entries_in window history = filter (is_in window) history

-- the number of the last of these entries
abbrev pub last_number : Entry → List Entry → ℕ
last_number entry [] = entry.number
last_number entry (next ∷ others) = last_number next others

-- the numbers of the first of these entries and of the last one; none if there is no entry
abbrev pub range_of : List Entry → Option EntryRange
range_of [] = None
range_of (first ∷ others) =
    Some (record { first = first.number; last = last_number first others })

-- the numbers of the first entry of a window and of the last one; none if the history has no entry in
-- it
abbrev pub range_in : Window → List Entry → Option EntryRange
range_in window history = range_of (entries_in window history)

-- a range, up to this number
abbrev pub widened : Option EntryRange → ℕ → EntryRange
widened None number = record { first = number; last = number }
widened (Some range) number = record { first = range.first; last = number }

-- a window, with the number of entries of a machine's history and its time, and with idle entries folded
-- or not
abbrev pub empty_in : Window → Bool → Machine → EmptyWindow
empty_in window fold machine = record {
  window = window;
  fold = fold;
  entries = length machine.history;
  now = machine.roster.now;
}
