-- What a picture shows of the entries that it is asked to show.
use Rattle.std.specs.Prelude.{ℕ, ◌-◌, ◌==◌, ◌&&◌, Bool, not, nat_le, List, length, map, drop, take, slice_index_or, Option, None, Some, is_none, if◌then◌else◌}
use Rattle.std.specs.List.{filter}
use Rattle.apex_moments.specs.Terms.{Entry}
use Rattle.apex_pictures.specs.declared.excerpts.Excerpt.{Excerpt}
use Rattle.apex_pictures.specs.declared.excerpts.Extent.{Extent}
use Rattle.apex_pictures.specs.declared.excerpts.Side.{Side}
use Rattle.apex_pictures.specs.declared.excerpts.Side.TheVariants.{First, Last}
use Rattle.apex_pictures.specs.declared.excerpts.Timed.{Timed}
use Rattle.apex_pictures.specs.declared.excerpts.TheConstants.{MOST_COLUMNS}

-- the number and the time of an entry
abbrev pub timed : Entry → Timed
timed entry = record { number = entry.number; now = entry.now }

-- those of no entry
abbrev pub never : Timed
never = record { number = 0; now = 0 }

-- an entry is eventless: an idle turn, or a tick at which nothing happens. It has neither a call nor a
-- notice.
abbrev pub is_eventless : Entry → Bool
is_eventless entry = is_none entry.call && length entry.notices == 0

-- an entry is not folded: it is not eventless, or eventless entries are not folded
abbrev pub is_unfolded : Bool → Entry → Bool
is_unfolded fold entry = not (fold && is_eventless entry)

-- an entry has a column in an extent: it is one of the extent's, and it is not folded
abbrev pub has_column : Extent → Entry → Bool
has_column extent entry =
    (nat_le extent.first entry.number && nat_le entry.number extent.last)
    && is_unfolded extent.fold entry

-- the entries of a history that have a column in an extent, if there is room for all of them
abbrev pub columns_of : Extent → List Entry → List Timed
columns_of extent history = map timed (filter (has_column extent) history)

-- how many of these columns come before those that are drawn on this side
abbrev pub left_out : Side → ℕ → ℕ
left_out First columns = 0
left_out Last columns = columns - MOST_COLUMNS

-- `MOST_COLUMNS` of these at the most, on this side
abbrev pub cut : Side → List Timed → List Timed
cut side columns = take MOST_COLUMNS (drop (left_out side (length columns)) columns)

-- the entries that are drawn of an extent
abbrev pub drawn : Extent → List Entry → List Timed
drawn extent history = cut extent.side (columns_of extent history)

-- the entry behind n others of these
abbrev pub drawn_at : List Timed → ℕ → Timed
drawn_at entries n = slice_index_or entries n never

-- the numbers of the first of these entries and of the last one
abbrev pub first_number : List Timed → ℕ
first_number entries = (drawn_at entries 0).number

abbrev pub last_number : List Timed → ℕ
last_number entries = (drawn_at entries (length entries - 1)).number

-- what is drawn of these columns on a side, in a run of `entries` entries; none if all of them are drawn
abbrev pub excerpt_in : Side → List Timed → ℕ → Option Excerpt
excerpt_in side columns entries =
    if nat_le (length columns) MOST_COLUMNS then None
    else Some (record {
      first = first_number (cut side columns);
      last = last_number (cut side columns);
      entries = entries;
    })

-- what is drawn of an extent of a history; none if all of its columns are drawn
abbrev pub excerpt_of : Extent → List Entry → Option Excerpt
excerpt_of extent history = excerpt_in extent.side (columns_of extent history) (length history)
