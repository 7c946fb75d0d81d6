-- What holds of the columns of a picture.
use Rattle.std.specs.Prelude.{◌≡◌, ◌+◌, ◌-◌, ◌*◌, ◌<◌, ◌≤◌, ℕ, true, List, All, drop, length, take}
use Rattle.apex_machine.specs.Machine.{opening, run}
use Rattle.apex_machine.specs.table.Table.{IsLawful, Table}
use Rattle.apex_pictures.specs.Axes.{all_ticks, place_of, time_of}
use Rattle.apex_pictures.specs.Excerpts.{columns_of, drawn_at, is_eventless}
use Rattle.apex_moments.specs.Moments.{picture}
use Rattle.apex_moments.specs.Terms.{Entry, Event}
use Rattle.apex_scales.specs.declared.Axis.{Axis}
use Rattle.apex_scales.specs.declared.Axis.TheVariants.{Time}
use Rattle.apex_pictures.specs.declared.axes.TheConstants.{COLUMN, MOST_ROOM, TICK}
use Rattle.apex_pictures.specs.declared.excerpts.Extent.{Extent}
use Rattle.apex_pictures.specs.declared.excerpts.Timed.{Timed}

-- the history of a run
abbrev pub history_of : Table → List Event → List Entry
history_of table events = (run table (opening table) events).history

-- In a picture of these entries, along either axis: each has a greater number than the one before it, and
-- its column begins at least a column's width behind that one's, or right there if no tick is between
-- them. All columns have room within the width of as many columns and `MOST_ROOM` pixels. Along an axis
-- of time each tick between two entries has `TICK` pixels, if there is room for all ticks from the first
-- entry to the last.
pub record AreApart (axis : Axis) (entries : List Timed) (n : ℕ) : Type 0 where
  pub follows : (drawn_at entries n).number < (drawn_at entries (n + 1)).number
  pub apart : place_of axis entries n + COLUMN ≤ place_of axis entries (n + 1)
  pub beside : time_of entries (n + 1) ≡ time_of entries n
      → place_of axis entries (n + 1) ≡ place_of axis entries n + COLUMN
  pub within : place_of axis entries n ≤ COLUMN * n + MOST_ROOM
  pub wider : axis ≡ Time → TICK * all_ticks entries ≤ MOST_ROOM
      → place_of axis entries (n + 1)
      ≡ place_of axis entries n + COLUMN + TICK * (time_of entries (n + 1) - time_of entries n)

-- So are the columns of all runs, whatever is folded: those of any `many` entries that have a column in an
-- extent, behind any `others` that have one, whether all of these are drawn or not.
abbrev pub ColumnsAreApart : Type 0
ColumnsAreApart = (axis : Axis) (table : Table) → IsLawful table → (events : List Event)
    (extent : Extent) (others many n : ℕ)
    → n + 1 < length (take many (drop others (columns_of extent (history_of table events))))
    → AreApart axis (take many (drop others (columns_of extent (history_of table events)))) n

-- in the picture of every run, the cells after an eventless entry are those before it
abbrev pub EventlessCellsStay : Type 0
EventlessCellsStay = (table : Table) → (events : List Event)
    → All (λ column. is_eventless column.entry ≡ true → column.after.cells ≡ column.before.cells)
    (picture table (run table (opening table) events))
