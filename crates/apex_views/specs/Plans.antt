-- The text that shows a run.
use Rattle.std.specs.Prelude.{◌≡◌, ℕ, ◌<◌, ◌≤◌, ◌++◌, [], Bool, true, false, codes, length, List, Option, Some, None, Ok, All}
use Rattle.std.specs.Io.KnownBytes.{Appends}
use Rattle.apex_json.specs.declared.Form.{Form}
use Rattle.apex_json.specs.declared.Form.TheVariants as forms
use Rattle.apex_machine.specs.Machine.{Machine, events_of, opening, run}
use Rattle.apex_machine.specs.Events.{IsWithin}
use Rattle.apex_machine.specs.table.Table as tables
use Rattle.apex_machine.specs.text.Listing.{listing}
use Rattle.apex_types.specs.declared.entries.Entry.{Entry}
use Rattle.apex_types.specs.declared.entries.Event.{Event}
use Rattle.apex_calls.specs.Lines.{lines_of}
use Rattle.apex_history.specs.Counted.{AppendsBeginning}
use Rattle.apex_console.specs.Reports.{fault_of_events}
use Rattle.apex_objects.specs.Entries.{objects_of}
use Rattle.apex_objects.specs.Listing.{listing_objects}
use Rattle.apex_report.specs.Json.{report_json}
use Rattle.apex_report.specs.Texts.{report_text}
use Rattle.apex_schedules.specs.Printing.{schedule_text}
use Rattle.apex_schedules.specs.Schedule.{events_of_items}
use Rattle.apex_console.specs.declared.CliFault.{CliFault}
use Rattle.apex_console.specs.declared.CliFault.TheVariants.{Memory, Write}
use Rattle.apex_schedules.specs.declared.Item.{Item}
use Rattle.apex_drawing.specs.declared.DrawFault.{DrawFault}
use Rattle.apex_drawing.specs.declared.DrawFault.TheVariants as draw
use Rattle.apex_pictures.specs.Axes.{HasColumns}
use Rattle.apex_pictures.specs.Excerpts.{columns_of, excerpt_of}
use Rattle.apex_drawing.specs.Pictures.{picture_text}
use Rattle.apex_pictures.specs.Rows.{HasRows}
use Rattle.apex_pictures.specs.Svg.{HasRoom}
use Rattle.apex_scales.specs.declared.Axis.{Axis}
use Rattle.apex_pictures.specs.declared.Excerpt.{Excerpt}
use Rattle.apex_pictures.specs.declared.Extent.{Extent}
use Rattle.apex_pictures.specs.declared.Frame.{Frame}
use Rattle.apex_pictures.specs.declared.Timed.{Timed}
use Rattle.apex_drawing.specs.declared.Style.{Style}
use Rattle.apex_drawing.specs.declared.Style.TheVariants as style
use Rattle.apex_views.specs.Departures.{Departure, Marks, departure_behind, extent_of}
use Rattle.apex_views.specs.Rows.{rows_for}
use Rattle.apex_showings.specs.Showings.{Chart, Picture, View, drawn, listed, svg, trace}
use Rattle.apex_showings.specs.Windows.{range_in}
use Rattle.apex_views.specs.declared.plans.Plan.{Plan}
use Rattle.apex_showings.specs.declared.Listing.{Listing}
use Rattle.apex_showings.specs.declared.Listing.TheVariants as lists
use Rattle.apex_showings.specs.declared.EntryRange.{EntryRange}

-- the events run like those of the items, and this fault is reported with the picture
pub record IsRunOf (items : List Item) (table : tables.Table) (events : List Event)
    (fault : Option CliFault) : Type 0 where
  pub same : run table (opening table) (events_of_items items) ≡ run table (opening table) events
  pub told : fault ≡ fault_of_events table (events_of_items items)
  pub within : All (IsWithin table.cores) events

-- the events are the first ones of these, as many as the limit allows, and all of them unless they
-- are cut
pub record IsListOf (limit : ℕ) (all events : List Event) (is_cut : Bool) : Type 0 where
  pub rest : List Event
  pub split : all ≡ events ++ rest
  pub whole : is_cut ≡ false → (rest ≡ []) × (length events ≤ limit)
  pub cut : is_cut ≡ true → (length events ≡ limit) × (0 < length rest)

-- A frame is for an extent of a history: it has the columns of its entries, one at least and
-- `MOST_COLUMNS` at most, and says so if these are not all. The columns are along the axis, and the frame
-- has room for them. It marks the departure after the history, if there is one and the extent ends with
-- the last entry.
pub record IsFrameFor (axis : Axis) (extent : Extent) (history : List Entry)
    (departure : Option Departure) (frame : Frame) : Type 0 where
  pub columns : HasColumns axis extent history frame.columns
  pub some : 0 < length frame.columns.drawn.items
  pub room : HasRoom frame
  pub mark : Marks (departure_behind extent.last (length history) departure) frame.mark

-- a frame is that of a chart: it shows the entries from the first one of the window to the last, along
-- the axis, folds those that are idle if this is asked for, and has rows for the processes that are named
pub record IsFrameOf (chart : Chart) (table : tables.Table) (history : List Entry)
    (departure : Option Departure) (frame : Frame) : Type 0 where
  pub range : EntryRange
  pub only : Option (List ℕ)
  pub is : range_in chart.window history ≡ Some range
  pub named : rows_for table chart.only ≡ Ok only
  pub rows : HasRows table only frame.rows
  pub shows : IsFrameFor chart.axis (extent_of departure (length history) chart.fold range) history
      departure frame

-- a style is that of a picture of a table's history, behind which there may be a departure
abbrev pub IsStyleOf : Picture → tables.Table → List Entry → Option Departure → Style → Type 0
IsStyleOf (svg chart) table history departure (style.Svg frame) =
    IsFrameOf chart table history departure frame
IsStyleOf (svg chart) table history departure (style.Trace tick) = ⊥
IsStyleOf (trace asked) table history departure (style.Svg frame) = ⊥
IsStyleOf (trace asked) table history departure (style.Trace tick) = tick ≡ asked

-- the entries of a range of a history that have a column, with idle entries folded or not; there is none
-- without a range
abbrev pub columns_in : Bool → Option EntryRange → List Entry → List Timed
columns_in fold None history = []
columns_in fold (Some range) history =
    columns_of (extent_of None (length history) fold range) history

-- the entries of the window of a chart that have a column
abbrev pub columns_asked : Chart → List Entry → List Timed
columns_asked chart history = columns_in chart.fold (range_in chart.window history) history

-- the part of a range that is drawn of a history; none if all of its columns are drawn
abbrev pub excerpt_at : Bool → Option EntryRange → List Entry → Option Excerpt
excerpt_at fold None history = None
excerpt_at fold (Some range) history =
    excerpt_of (extent_of None (length history) fold range) history

-- what a view shows of a history, if more was asked for
abbrev pub excerpt_shown : View → List Entry → Option Excerpt
excerpt_shown (drawn (svg chart)) history =
    excerpt_at chart.fold (range_in chart.window history) history
excerpt_shown (drawn (trace tick)) history = None
excerpt_shown (listed listing) history = None

-- what is drawn in a style, if more was asked for
abbrev pub excerpt_with : Style → Option Excerpt
excerpt_with (style.Svg frame) = frame.columns.excerpt
excerpt_with (style.Trace tick) = None

-- the machine of which a plan's picture is
abbrev pub machine_of : Plan → Machine
machine_of plan = run plan.table (opening plan.table) plan.events.items

-- the plan is for this picture, and its events are of the table's cores
pub record IsPlanFor (picture : Picture) (departure : Option Departure) (plan : Plan) : Type 0 where
  pub within : All (IsWithin plan.table.cores) plan.events.items
  pub style : IsStyleOf picture plan.table (machine_of plan).history departure plan.style

-- the entries of a history, in this form
abbrev pub history_in : Form → tables.Table → List Entry → List ℕ
history_in forms.Text table history = lines_of table history
history_in forms.Json table history = objects_of table history

-- the last state of a machine, in this form
abbrev pub status_in : Form → tables.Table → Machine → List ℕ
status_in forms.Text table machine = listing table machine
status_in forms.Json table machine = listing_objects table machine

-- the report of a history, in this form
abbrev pub report_in : Form → tables.Table → List Entry → List ℕ
report_in forms.Text table history = report_text table history
report_in forms.Json table history = report_json table history

-- the text of a listing of a machine: the entries of its history, its last state, the report of its
-- history, or the schedule of its events with a line feed
abbrev pub listing_text : Listing → tables.Table → Machine → List ℕ
listing_text (lists.Lines form) table machine = history_in form table machine.history
listing_text (lists.Status form) table machine = status_in form table machine
listing_text (lists.Report form) table machine = report_in form table machine.history
listing_text lists.Schedule table machine =
    schedule_text (events_of machine.history) ++ codes "\n"

-- the text shows a machine in this view, behind whose history there may be a departure
abbrev pub IsTextOf : View → tables.Table → Machine → Option Departure → List ℕ → Type 0
IsTextOf (drawn picture) table machine departure text =
    (style : Style) × IsStyleOf picture table machine.history departure style
    × (text ≡ picture_text style table machine)
IsTextOf (listed asked) table machine departure text = text ≡ listing_text asked table machine

-- known bytes grow by a text that shows a machine
abbrev pub AppendsView : Option (List ℕ) → Option (List ℕ) → View → tables.Table → Machine
    → Option Departure → Type 0
AppendsView old new view table machine departure =
    (text : List ℕ) × IsTextOf view table machine departure text × Appends old new text

-- known bytes grow by a prefix of such a text
abbrev pub AppendsPrefixOfView : Option (List ℕ) → Option (List ℕ) → View → tables.Table → Machine
    → Option Departure → Type 0
AppendsPrefixOfView old new view table machine departure =
    (text : List ℕ) × IsTextOf view table machine departure text × AppendsBeginning old new text

-- the fault of a drawing
abbrev pub fault_of_drawing : DrawFault → CliFault
fault_of_drawing draw.Memory = Memory
fault_of_drawing draw.Write = Write
