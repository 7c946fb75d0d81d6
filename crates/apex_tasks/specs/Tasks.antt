-- What the program is asked to do.
use Rattle.std.specs.Prelude.{◌≡◌, ◌⊎◌, ℕ, Bool, List, Option, Some, None, Result, Ok, Err, length, nat_le, if◌then◌else◌, option_and_then, option_map}
use Rattle.clap.specs.Words.{Text}
use Rattle.apex_json.specs.declared.Form.{Form}
use Rattle.apex_types.specs.declared.limits.TheConstants.{MOST_ENTRIES}
use Rattle.apex_console.specs.declared.CliFault.TheVariants.{Memory, Usage}
use Rattle.apex_pace.specs.Laws.{IsPace}
use Rattle.apex_schedules.specs.declared.Item.{Item}
use Rattle.apex_schedules.specs.Groups.{grouped_items_of}
use Rattle.apex_schedules.specs.Schedule.{positive_of}
use Rattle.apex_scales.specs.declared.Axis.{Axis}
use Rattle.apex_showings.specs.Schedules.{IsBadIn}
use Rattle.apex_showings.specs.Showings.{Chart, Showing, Source, View, drawn, history, listed, paced, schedule, schedule_read, showing_said, showing_with, source_said, svg, trace}
use Rattle.apex_tasks.specs.Lints.{Lint, lint_asked, lint_said}
use Rattle.apex_tasks.specs.Names.{names_in}
use Rattle.apex_tasks.specs.Numbers.{pace_in, tick_in, time_of}
use Rattle.apex_tasks.specs.Questions.{search_asked}
use Rattle.apex_tasks.specs.Windows.{axis_in, window_between}
use Rattle.apex_tasks.specs.Words.{Given, Request, Shown, as_listing, as_svg, as_trace, by_history, by_pace, by_schedule, by_schedule_read, check_of, dump_of, lint_of, request_of, search_of, show_of, step_of, why_of}
use Rattle.apex_showings.specs.declared.Window.{Window}
use Rattle.apex_tasks.specs.declared.faults.TaskFault.{TaskFault}
use Rattle.apex_tasks.specs.declared.faults.TaskFault.TheVariants.{Common, Schedule as BadText}
use Rattle.apex_questions.specs.declared.Search.{Search}
use Rattle.apex_tasks.specs.declared.tasks.Task.{Task}
use Rattle.apex_tasks.specs.declared.tasks.Task.TheVariants as task

-- what the program is asked to do
pub data Asked : Type 0 where
  -- to show a run
  to_show : Showing → Asked
  -- to search the schedules of a pace
  to_search : Search → Asked
  -- to lint a table
  to_lint : Lint → Asked
  -- to answer commands in this form
  to_step : Form → Asked
  -- to explain in this form a history, which may have comments
  to_check : Form → Bool → Asked
  -- for the reason of the entry of this number, of a run that is given in this way
  to_why : Source → ℕ → Asked
  -- to write the value changes of a run that is given in this way
  to_dump : Source → Asked

-- why words ask for nothing
pub data Unasked : Type 0 where
  -- the words or a number are ill-formed
  ill_formed : Unasked
  -- this text is no schedule
  no_schedule : Text → Unasked

-- the run of a pace, by the texts of its time, its turns and its percentage; none if one is
-- ill-formed
abbrev pub paced_source : Text → Option Text → Option Text → Option Source
paced_source until turns early =
    option_and_then (λ t. option_map (λ pace. paced pace t) (pace_in turns early)) (time_of until)

-- the items, if they are not too many
abbrev pub if_few : List Item → Option (List Item)
if_few items = if nat_le (length items) MOST_ENTRIES then Some items else None

-- the items of a schedule's text; none if it is ill-formed, or they are too many
abbrev pub scheduled_items : Text → Option (List Item)
scheduled_items text = option_and_then if_few (grouped_items_of text)

-- what is there, or else the reason why words ask for nothing
abbrev pub or_unasked : {X : Type 0} → Unasked → Option X → Result X Unasked
or_unasked unasked None = Err unasked
or_unasked unasked (Some x) = Ok x

-- how a run is given
abbrev pub source_in : Given → Result Source Unasked
source_in (by_schedule text) =
    or_unasked (no_schedule text) (option_map schedule (scheduled_items text))
source_in by_schedule_read = Ok schedule_read
source_in (by_pace until turns early) = or_unasked ill_formed (paced_source until turns early)
source_in by_history = Ok history

-- the chart of this window along an axis, with idle entries folded or not, and with rows for the
-- processes of these names, or for all
abbrev pub chart_of : Window → Axis → Bool → Option (List Text) → Chart
chart_of window axis fold only =
    record { window = window; axis = axis; only = only; fold = fold }

-- how an SVG shows a run; none if a bound, the word of an axis or a name is ill-formed
abbrev pub chart_in : Option Text → Option Text → Option Text → Option Text → Bool → Option Chart
chart_in first last axis only fold =
    option_and_then
    (λ window. option_and_then (λ along. option_map (chart_of window along fold) (names_in only))
    (axis_in axis))
    (window_between first last)

-- how a run is shown; none if a text is ill-formed
abbrev pub view_in : Shown → Option View
view_in (as_svg first last axis only fold) =
    option_map (λ chart. drawn (svg chart)) (chart_in first last axis only fold)
view_in (as_trace tick) = option_map (λ length. drawn (trace length)) (tick_in tick)
view_in (as_listing listing) = Some (listed listing)

-- the run of a source and a view, if both are there
abbrev pub showing_of : Result Source Unasked → Option View → Result Showing Unasked
showing_of source None = Err ill_formed
showing_of (Err unasked) (Some view) = Err unasked
showing_of (Ok source) (Some view) = Ok (showing_with source view)

-- the same as what is asked for
abbrev pub showing_asked : Result Showing Unasked → Result Asked Unasked
showing_asked (Err unasked) = Err unasked
showing_asked (Ok showing) = Ok (to_show showing)

-- the reason of an entry, if the run and the number are there
abbrev pub why_asked : Result Source Unasked → Option ℕ → Result Asked Unasked
why_asked source None = Err ill_formed
why_asked (Err unasked) (Some entry) = Err unasked
why_asked (Ok source) (Some entry) = Ok (to_why source entry)

-- the value changes of a run, if it is there
abbrev pub dump_asked : Result Source Unasked → Result Asked Unasked
dump_asked (Err unasked) = Err unasked
dump_asked (Ok source) = Ok (to_dump source)

-- what a request asks for
abbrev pub asked_in_request : Request → Result Asked Unasked
asked_in_request (show_of given shown) =
    showing_asked (showing_of (source_in given) (view_in shown))
asked_in_request (search_of said) =
    or_unasked ill_formed (option_map to_search (search_asked said))
asked_in_request (lint_of said) = or_unasked ill_formed (option_map to_lint (lint_asked said))
asked_in_request (step_of form) = Ok (to_step form)
asked_in_request (check_of form comments) = Ok (to_check form comments)
asked_in_request (why_of given entry) = why_asked (source_in given) (positive_of entry)
asked_in_request (dump_of given) = dump_asked (source_in given)

-- the same, if there is a request
abbrev pub asked_in : Option Request → Result Asked Unasked
asked_in None = Err ill_formed
asked_in (Some request) = asked_in_request request

-- what the words ask for
abbrev pub asked_by : List Text → Result Asked Unasked
asked_by words = asked_in (request_of words)

-- the task of a value of the program
abbrev pub task_said : Task → Asked
task_said (task.Show showing) = to_show (showing_said showing)
task_said (task.Search search) = to_search search
task_said (task.Lint lint) = to_lint (lint_said lint)
task_said (task.Step form) = to_step form
task_said (task.Check form comments) = to_check form comments
task_said (task.Why why) = to_why (source_said why.source) why.entry
task_said (task.Dump source) = to_dump (source_said source)

-- the pace of a search is one
abbrev pub IsInRange : Task → Type 0
IsInRange (task.Show showing) = Unit {0}
IsInRange (task.Search search) = IsPace search.pace
IsInRange (task.Lint lint) = Unit {0}
IsInRange (task.Step form) = Unit {0}
IsInRange (task.Check form comments) = Unit {0}
IsInRange (task.Why why) = Unit {0}
IsInRange (task.Dump source) = Unit {0}

-- the fault, memory aside, with which the program ends if words ask for nothing
abbrev pub IsUnasked : {X : Type 0} → Result X Unasked → TaskFault → Type 0
IsUnasked asked (Common fault) =
    (fault ≡ Memory) ⊎ ((fault ≡ Usage) × (asked ≡ Err ill_formed))
IsUnasked asked (BadText bad) =
    (text : Text) × (asked ≡ Err (no_schedule text)) × IsBadIn text bad
