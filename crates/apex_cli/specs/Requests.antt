-- The task of the program: by the words of the command line, and by the items of a schedule.
use Rattle.std.specs.Prelude.{ℕ, Bool, List, Option, Some, option_and_then, option_map}
use Rattle.apex_types.specs.declared.limits.TheConstants.{MOST_ENTRIES}
use Rattle.apex_types.specs.Numbers.{at_most, number_of}
use Rattle.apex_schedules.specs.declared.Item.{Item}
use Rattle.apex_cli.specs.declared.tasks.Task.{Task}
use Rattle.apex_cli.specs.declared.tasks.Task.TheVariants as task
use Rattle.apex_console.specs.declared.Report.{Report}
use Rattle.apex_cli.specs.declared.words.Request.{Request as RequestIn}
use Rattle.apex_cli.specs.declared.words.Request.TheVariants as request
use Rattle.apex_schedules.specs.Schedule.{items_of}
use Rattle.apex_cli.specs.Words.{Request, reports, checks, runs, request_of}

-- the request of a value of the program
abbrev pub request_said : RequestIn → Request
request_said (request.Report report text) = reports report text.now
request_said request.Check = checks
request_said (request.Run turns ticks with_front) = runs turns.now ticks.now with_front

-- the task of the program
pub data Asked : Type 0 where
  -- a report of the run for these items
  a_report : Report → List Item → Asked
  -- the check of a history
  a_check : Asked
  -- a run by threads, with the number of turns of each core and of ticks, and whether the front after it
  -- is asked for
  a_run : ℕ → ℕ → Bool → Asked

-- the task of a value of the program
abbrev pub task_said : Task → Asked
task_said (task.Report report items) = a_report report items.items
task_said task.Check = a_check
task_said (task.Run plan with_front) = a_run plan.turns plan.ticks with_front

-- the number of turns or ticks for which a text asks, 0 to 65,536
abbrev pub count_of : List ℕ → Option ℕ
count_of text = at_most MOST_ENTRIES (number_of text)

-- a run by threads, for the texts of its turns and of its ticks
abbrev pub run_asked : List ℕ → List ℕ → Bool → Option Asked
run_asked turns ticks with_front =
    option_and_then (λ n. option_map (λ k. a_run n k with_front) (count_of ticks)) (count_of turns)

-- the task of a request; none if its schedule or a number is ill-formed
abbrev pub asked_in : Request → Option Asked
asked_in (reports report text) = option_map (a_report report) (items_of text)
asked_in checks = Some a_check
asked_in (runs turns ticks with_front) = run_asked turns ticks with_front

-- the task of the words; none if the words or the schedule are ill-formed
abbrev pub asked_by : List (List ℕ) → Option Asked
asked_by words = option_and_then asked_in (request_of words)
