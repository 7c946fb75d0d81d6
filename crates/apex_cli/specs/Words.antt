-- The request of the words of the command line; the first word is the program's name.
use Rattle.std.specs.Prelude.{Bool, List, [], ◌∷◌, Option, Some, None, codes, if◌then◌else◌}
use Rattle.std.specs.Prelude.{option_and_then, option_map}
use Rattle.std.specs.Str.{bytes_eq}
use Rattle.clap.specs.Words.{App, Row, Text, first_of, new_app, with_subcommand}
use Rattle.apex_console.specs.Words.{flag_rule, program_alone, request_by, required_rule, says_given, with_rules}
use Rattle.apex_console.specs.declared.Report.{Report}
use Rattle.apex_console.specs.declared.Report.TheVariants.{History, Status}

-- the command of this name, `--schedule S`
abbrev pub report_command : Text → App
report_command name = with_rules (new_app name) (required_rule (codes "schedule") ∷ [])

-- `check`
abbrev pub check_command : App
check_command = new_app (codes "check")

-- `run --turns N --ticks K`, with or without `--front`
abbrev pub run_command : App
run_command =
    with_rules (new_app (codes "run"))
    (required_rule (codes "turns") ∷ required_rule (codes "ticks") ∷ flag_rule (codes "front") ∷ [])

-- `apex`
abbrev pub apex_alone : App
apex_alone = program_alone (codes "apex")

-- the program's command line, with its commands
abbrev pub apex : App
apex =
    with_subcommand
    (with_subcommand
    (with_subcommand
    (with_subcommand apex_alone (report_command (codes "replay")).top)
    (report_command (codes "status")).top)
    check_command.top)
    run_command.top

-- the request of the words of a command line
pub data Request : Type 0 where
  -- a report of the run for the schedule of this text
  reports : Report → Text → Request
  -- the check of a history
  checks : Request
  -- a run by threads, by the texts of how many turns of each core and how many ticks, and whether the
  -- front after it is asked for
  runs : Text → Text → Bool → Request

-- a report of the run for the schedule among the rows of a command
abbrev pub report_in : Report → List Row → Option Request
report_in report rows = option_map (reports report) (first_of (codes "schedule") rows)

-- a run by threads, for the turns, the ticks and the flag of the front among the rows of a command
abbrev pub run_in : List Row → Option Request
run_in rows =
    let front = says_given (first_of (codes "front") rows) in
    option_and_then
    (λ turns. option_map (λ ticks. runs turns ticks front) (first_of (codes "ticks") rows))
    (first_of (codes "turns") rows)

-- the request of the command of this name, with its rows
abbrev pub request_in : Text × List Row → Option Request
request_in found =
    if bytes_eq found.0 (codes "replay") then report_in History found.1
    else if bytes_eq found.0 (codes "status") then report_in Status found.1
    else if bytes_eq found.0 (codes "check") then Some checks
    else if bytes_eq found.0 (codes "run") then run_in found.1 else None

-- the request of the words; none if they ask for nothing that the program does
abbrev pub request_of : List Text → Option Request
request_of words = request_by request_in apex words
