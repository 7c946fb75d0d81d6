-- The event that a line of a history names.
use Rattle.std.specs.Prelude.{ℕ, List, ◌∷◌, Option, Some, None, Result, Ok, Err, length, take, drop, codes, ◌&&◌, nat_lt, if◌then◌else◌, option_map}
use Rattle.std.specs.Str.{bytes_eq}
use Rattle.apex_types.specs.declared.limits.TheConstants.{MOST_LINE}
use Rattle.apex_types.specs.declared.entries.Event.{Event}
use Rattle.apex_types.specs.declared.entries.Event.TheVariants.{Turn, Tick}
use Rattle.apex_history.specs.Words.{parts, core_of, ticks_of}
use Rattle.apex_history.specs.declared.events.LineFault.{LineFault}
use Rattle.apex_history.specs.declared.events.LineFault.TheVariants.{BadLine, TooLong}

-- `coreC`: a turn of the core C
abbrev pub turn_named : List ℕ → Option Event
turn_named who =
    if bytes_eq (take 4 who) (codes "core") then option_map Turn (core_of (drop 4 who)) else None

-- `ticker - tick n`: a tick of n; words behind it do not count
abbrev pub tick_named : List (List ℕ) → Option Event
tick_named (who ∷ process ∷ call ∷ ticks ∷ rest) =
    if bytes_eq who (codes "ticker") && bytes_eq process (codes "-") && bytes_eq call (codes "tick")
    then option_map Tick (ticks_of ticks) else None
tick_named words = None

-- the one or the other
abbrev pub either_event : Option Event → Option Event → Option Event
either_event (Some event) other = Some event
either_event None other = other

-- the event that a line's words name; the first two of them do not count
abbrev pub event_named : List (List ℕ) → Option Event
event_named (number ∷ now ∷ who ∷ rest) = either_event (turn_named who) (tick_named (who ∷ rest))
event_named words = None

-- the event, or a line that is none of a history
abbrev pub or_bad_line : Option Event → Result Event LineFault
or_bad_line (Some event) = Ok event
or_bad_line None = Err BadLine

-- the event that a line without its line feed names, or its fault: its words are the parts between
-- single spaces (32), and may be empty
abbrev pub line_result : List ℕ → Result Event LineFault
line_result line =
    if nat_lt MOST_LINE (length line) then Err TooLong
    else or_bad_line (event_named (parts 32 line))
