-- The faults of a showing.
use Rattle.std.specs.Prelude.{◌==◌, Bool, codes, decimal, ℕ, List, [], ◌++◌, if◌then◌else◌}
use Rattle.apex_console.specs.declared.CliFault.TheVariants.{Memory}
use Rattle.apex_types.specs.declared.limits.TheConstants.{MOST_ENTRIES}
use Rattle.apex_pictures.specs.declared.Excerpt.{Excerpt}
use Rattle.apex_showings.specs.Windows.{has_time}
use Rattle.apex_showings.specs.declared.BadSchedule.{BadSchedule}
use Rattle.apex_showings.specs.declared.ItemsFault.{ItemsFault}
use Rattle.apex_showings.specs.declared.ItemsFault.TheVariants as items
use Rattle.apex_showings.specs.declared.ScheduleReason.{ScheduleReason}
use Rattle.apex_showings.specs.declared.ScheduleReason.TheVariants.{IllFormed, TooMany}
use Rattle.apex_views.specs.declared.faults.ShowFault.{ShowFault}
use Rattle.apex_views.specs.declared.faults.ShowFault.TheVariants.{Common, Schedule as BadText}
use Rattle.apex_showings.specs.declared.Bound.{Bound}
use Rattle.apex_showings.specs.declared.Bound.TheVariants as bound
use Rattle.apex_showings.specs.declared.EmptyWindow.{EmptyWindow}

-- the fault of a showing, by that of a schedule's text
abbrev pub fault_of_items : ItemsFault → ShowFault
fault_of_items items.Memory = Common Memory
fault_of_items (items.Schedule bad) = BadText bad

abbrev pub too_many_text : List ℕ
too_many_text = codes "more than " ++ decimal MOST_ENTRIES ++ codes " items"

-- the reason of a fault
abbrev pub reason_text : ScheduleReason → List ℕ
reason_text IllFormed = codes "ill-formed"
reason_text TooMany = too_many_text

-- the line of a fault's place, unless it is the first one
abbrev pub line_part : ℕ → List ℕ
line_part line = if line == 1 then [] else codes ", line " ++ decimal line

-- `apex_lab: schedule: item I, line L, column C: `, without the line if it is the first one, and
-- then the reason
abbrev pub schedule_line : BadSchedule → List ℕ
schedule_line bad =
    codes "apex_lab: schedule: item " ++ decimal bad.item ++ line_part bad.line
    ++ codes ", column " ++ decimal bad.column ++ codes ": " ++ reason_text bad.reason
    ++ codes "\n"

-- a time in ticks
abbrev pub time_text : ℕ → List ℕ
time_text time = codes "t=" ++ decimal time

-- a bound of a window
abbrev pub bound_text : Bound → List ℕ
bound_text (bound.Entry number) = decimal number
bound_text (bound.Time time) = time_text time

-- a number of entries
abbrev pub entries_text : ℕ → List ℕ
entries_text entries =
    if entries == 1 then codes "1 entry" else decimal entries ++ codes " entries"

-- the time at the end of a run, if a bound of the window is a time
abbrev pub end_part : EmptyWindow → List ℕ
end_part empty = if has_time empty.window then codes " up to " ++ time_text empty.now else []

-- the entries that are looked for, with idle entries folded or not
abbrev pub sought_text : Bool → List ℕ
sought_text fold = if fold then codes "no entry but idle ones" else codes "no entry"

-- the line that reports that a run has no entry in a window, or none but idle ones
abbrev pub window_line : EmptyWindow → List ℕ
window_line empty =
    codes "apex_lab: the run has " ++ sought_text empty.fold ++ codes " from "
    ++ bound_text empty.window.first
    ++ codes " to " ++ bound_text empty.window.last ++ codes ", it has "
    ++ entries_text empty.entries ++ end_part empty ++ codes "\n"

-- the line that reports what a picture shows, of which more was asked for
abbrev pub excerpt_line : Excerpt → List ℕ
excerpt_line excerpt =
    codes "apex_lab: entries " ++ decimal excerpt.first ++ codes " to " ++ decimal excerpt.last
    ++ codes " of " ++ decimal excerpt.entries ++ codes "\n"
