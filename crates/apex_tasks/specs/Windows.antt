-- The window and the axis of a picture, as texts say them.
use Rattle.std.specs.Prelude.{ℕ, Option, Some, None, codes, drop, take, if◌then◌else◌, option_and_then, option_map}
use Rattle.std.specs.Str.{bytes_eq}
use Rattle.clap.specs.Words.{Text}
use Rattle.apex_scales.specs.declared.Axis.{Axis}
use Rattle.apex_scales.specs.declared.Axis.TheVariants as axis
use Rattle.apex_schedules.specs.Schedule.{positive_of}
use Rattle.apex_types.specs.declared.limits.TheConstants.{MOST_ENTRIES}
use Rattle.apex_showings.specs.declared.Bound.{Bound}
use Rattle.apex_showings.specs.declared.Bound.TheVariants.{Entry, Time}
use Rattle.apex_showings.specs.declared.Window.{Window}
use Rattle.apex_tasks.specs.Numbers.{time_of}

-- the bound that a text says: `t=` and a time in ticks, or the number of an entry
abbrev pub bound_of : Text → Option Bound
bound_of text =
    if bytes_eq (take 2 text) (codes "t=") then option_map Time (time_of (drop 2 text))
    else option_map Entry (positive_of text)

-- the bound that a text says, and the entry of this number if there is no text
abbrev pub bound_in : ℕ → Option Text → Option Bound
bound_in otherwise None = Some (Entry otherwise)
bound_in otherwise (Some text) = bound_of text

-- the window between two bounds
abbrev pub window_of : Bound → Bound → Window
window_of first last = record { first = first; last = last }

-- the window between the bounds of two texts, which is all entries without them; none if one is
-- ill-formed
abbrev pub window_between : Option Text → Option Text → Option Window
window_between first last =
    option_and_then (λ begin. option_map (window_of begin) (bound_in MOST_ENTRIES last))
    (bound_in 1 first)

-- the axis of this word
abbrev pub axis_of : Text → Option Axis
axis_of word =
    if bytes_eq word (codes "entries") then Some axis.Entries
    else if bytes_eq word (codes "time") then Some axis.Time else None

-- the axis that a text says, and that of the entries if there is no text
abbrev pub axis_in : Option Text → Option Axis
axis_in None = Some axis.Entries
axis_in (Some word) = axis_of word
