-- The places of the columns of a picture along its axis, in pixels from the first column.
use Rattle.std.specs.Prelude.{◌≡◌, ℕ, ◌+◌, ◌-◌, ◌*◌, ◌/◌, List, length, max, min}
use Rattle.apex_moments.specs.Places.{of_places}
use Rattle.apex_moments.specs.Terms.{Entry}
use Rattle.apex_scales.specs.declared.Axis.{Axis}
use Rattle.apex_scales.specs.declared.Axis.TheVariants.{Entries, Time}
use Rattle.apex_pictures.specs.Excerpts.{drawn, drawn_at, excerpt_of}
use Rattle.apex_pictures.specs.declared.axes.TheConstants.{COLUMN, MOST_ROOM, TICK}
use Rattle.apex_pictures.specs.declared.columns.Columns.{Columns}
use Rattle.apex_pictures.specs.declared.excerpts.Extent.{Extent}
use Rattle.apex_pictures.specs.declared.excerpts.Timed.{Timed}

-- the width of these ticks, out of `all` that are drawn: `TICK` pixels a tick, or their share of
-- `MOST_ROOM` pixels if that is less
abbrev pub ticks_width : ℕ → ℕ → ℕ
ticks_width all ticks = min (MOST_ROOM * ticks / max all 1) (TICK * ticks)

-- the width of these ticks along an axis: ticks have none along that of the entries
abbrev pub idle_width : Axis → ℕ → ℕ → ℕ
idle_width Entries all ticks = 0
idle_width Time all ticks = ticks_width all ticks

-- the time of the entry behind n others of these
abbrev pub time_of : List Timed → ℕ → ℕ
time_of entries n = (drawn_at entries n).now

-- the ticks from the first of these entries to the one behind n others
abbrev pub ticks_before : List Timed → ℕ → ℕ
ticks_before entries n = time_of entries n - time_of entries 0

-- the ticks from the first of these entries to the last one
abbrev pub all_ticks : List Timed → ℕ
all_ticks entries = ticks_before entries (length entries - 1)

-- The place of the column behind n others, if these entries have one: `COLUMN` pixels for each column
-- before it, and the width of the ticks from the first entry to that of the column. Folded entries are
-- none of these, and the ticks around them stay.
abbrev pub place_of : Axis → List Timed → ℕ → ℕ
place_of axis entries n =
    COLUMN * n + idle_width axis (all_ticks entries) (ticks_before entries n)

-- the places of the columns of these entries
abbrev pub places_of : Axis → List Timed → List ℕ
places_of axis entries = of_places (place_of axis entries) (length entries)

-- the place behind the last column
abbrev pub behind_of : Axis → List Timed → ℕ
behind_of axis entries = place_of axis entries (length entries - 1) + COLUMN

-- the columns of an extent of a history along an axis
pub record HasColumns (axis : Axis) (extent : Extent) (history : List Entry) (columns : Columns)
    : Type 0 where
  pub fold : columns.fold ≡ extent.fold
  pub drawn_is : columns.drawn.items ≡ drawn extent history
  pub excerpt : columns.excerpt ≡ excerpt_of extent history
  pub places : columns.places.items ≡ places_of axis (drawn extent history)
  pub behind : columns.behind ≡ behind_of axis (drawn extent history)
