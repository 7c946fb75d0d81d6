-- What the words of the command line ask for; the first word is the program's name.
use Rattle.std.specs.Prelude.{Bool, List, [], ◌∷◌, Option, Some, None, codes, if◌then◌else◌, option_and_then, option_map}
use Rattle.std.specs.Str.{bytes_eq}
use Rattle.clap.specs.Words.{App, Row, Text, first_of, new_app, with_subcommand}
use Rattle.apex_json.specs.declared.Form.{Form}
use Rattle.apex_json.specs.declared.Form.TheVariants as forms
use Rattle.apex_console.specs.Words.{flag_rule, option_rule, program_alone, request_by, says_given, with_rules}
use Rattle.apex_tasks.specs.declared.words.LintWords.{LintWords}
use Rattle.apex_showings.specs.declared.Listing.{Listing}
use Rattle.apex_showings.specs.declared.Listing.TheVariants.{Lines, Status, Report, Schedule}
use Rattle.apex_tasks.specs.declared.words.Request.{Request as RequestIn}
use Rattle.apex_tasks.specs.declared.words.Request.TheVariants as request
use Rattle.apex_tasks.specs.declared.words.SearchWords.{SearchWords}
use Rattle.apex_tasks.specs.declared.words.SourceWords.{SourceWords}
use Rattle.apex_tasks.specs.declared.words.SourceWords.TheVariants as source
use Rattle.apex_tasks.specs.declared.words.ViewWords.{ViewWords}
use Rattle.apex_tasks.specs.declared.words.ViewWords.TheVariants as view

-- the command of this name, `[--schedule S] [--until T] [--turns K] [--early E]`
abbrev pub view_command : Text → App
view_command name =
    with_rules (new_app name)
    (option_rule (codes "schedule") ∷ option_rule (codes "until") ∷ option_rule (codes "turns")
    ∷ option_rule (codes "early") ∷ [])

-- `svg`, which has `[--from N] [--to M] [--by AXIS] [--only NAME,NAME] [--fold]` too
abbrev pub svg : App
svg =
    with_rules (view_command (codes "svg"))
    (option_rule (codes "from") ∷ option_rule (codes "to") ∷ option_rule (codes "by")
    ∷ option_rule (codes "only") ∷ flag_rule (codes "fold") ∷ [])

-- `trace`, which has `[--tick-us N]` too
abbrev pub trace_command : App
trace_command = with_rules (view_command (codes "trace")) (option_rule (codes "tick-us") ∷ [])

-- the command of this name, with `[--json]` too
abbrev pub json_view_command : Text → App
json_view_command name = with_rules (view_command name) (flag_rule (codes "json") ∷ [])

-- the program's command line, with its commands for pictures
abbrev pub lab_of_pictures : App
lab_of_pictures =
    with_subcommand (with_subcommand (program_alone (codes "apex_lab")) svg.top)
    trace_command.top

-- with those for listings too
abbrev pub lab_of_views : App
lab_of_views =
    with_subcommand
    (with_subcommand
    (with_subcommand
    (with_subcommand lab_of_pictures (json_view_command (codes "lines")).top)
    (json_view_command (codes "status")).top)
    (json_view_command (codes "report")).top)
    (view_command (codes "schedule")).top

-- `search [--for WORD] [--process P] [--service WORD]`, `[--worst P]`, and
-- `[--turns K] [--early E] [--states N] [--jobs N]`
abbrev pub search_command : App
search_command =
    with_rules (new_app (codes "search"))
    (option_rule (codes "for") ∷ option_rule (codes "worst") ∷ option_rule (codes "process")
    ∷ option_rule (codes "service") ∷ option_rule (codes "turns") ∷ option_rule (codes "early")
    ∷ option_rule (codes "states") ∷ option_rule (codes "jobs") ∷ [])

-- `lint [--json] [--name FILE] [--allow WORD,WORD]`
abbrev pub lint_command : App
lint_command =
    with_rules (new_app (codes "lint"))
    (flag_rule (codes "json") ∷ option_rule (codes "name") ∷ option_rule (codes "allow") ∷ [])

-- `step [--json]`
abbrev pub step_command : App
step_command = with_rules (new_app (codes "step")) (flag_rule (codes "json") ∷ [])

-- `check [--json] [--comments]`
abbrev pub check_command : App
check_command =
    with_rules (new_app (codes "check")) (flag_rule (codes "json") ∷ flag_rule (codes "comments") ∷ [])

-- `why`, which has `[--entry N]` besides the options that say how a run is given
abbrev pub why_command : App
why_command = with_rules (view_command (codes "why")) (option_rule (codes "entry") ∷ [])

-- the program's command line, with its commands that show a run, that search and that lint
abbrev pub lab_of_searches : App
lab_of_searches =
    with_subcommand (with_subcommand lab_of_views search_command.top) lint_command.top

-- the program's command line, with all its commands
abbrev pub lab : App
lab =
    with_subcommand
    (with_subcommand
    (with_subcommand (with_subcommand lab_of_searches step_command.top) check_command.top)
    why_command.top)
    (view_command (codes "vcd")).top

-- how a run is given
pub data Given : Type 0 where
  -- by the schedule of this text
  by_schedule : Text → Given
  -- by a schedule that is read
  by_schedule_read : Given
  -- by a pace, up to the time of the first text, with the texts of the turns a tick and of the
  -- percentage, if they are given
  by_pace : Text → Option Text → Option Text → Given
  -- by a history
  by_history : Given

-- how a run is shown
pub data Shown : Type 0 where
  -- as SVG, with the texts of the first bound, of the last one, of the axis and of the names of
  -- processes, if they are given, and with idle entries folded or not
  as_svg : Option Text → Option Text → Option Text → Option Text → Bool → Shown
  -- as a trace, with the text of the length of a tick, if it is given
  as_trace : Option Text → Shown
  -- as this listing
  as_listing : Listing → Shown

-- what a search is for: the texts of a fact, of the process whose greatest response is asked for, of a
-- process, of a service, of the turns a tick, of the percentage, of the number of states and of the
-- number of jobs, if they are given
pub record SearchSaid : Type 0 where
  pub fact : Option Text
  pub worst : Option Text
  pub process : Option Text
  pub service : Option Text
  pub turns : Option Text
  pub early : Option Text
  pub states : Option Text
  pub jobs : Option Text

-- how a table is linted: whether the report is in JSON, and the texts of the table's name and of the
-- warnings that are left out, if they are given
pub record LintSaid : Type 0 where
  pub json : Bool
  pub name : Option Text
  pub allow : Option Text

-- what the words ask for
pub data Request : Type 0 where
  -- to show a run that is given in this way
  show_of : Given → Shown → Request
  -- to search the schedules of a pace
  search_of : SearchSaid → Request
  -- to lint a table
  lint_of : LintSaid → Request
  -- to answer commands in this form
  step_of : Form → Request
  -- to explain in this form a history, which may have comments
  check_of : Form → Bool → Request
  -- for the reason of the entry of this number, of a run that is given in this way
  why_of : Given → Text → Request
  -- to write the value changes of a run that is given in this way
  dump_of : Given → Request

-- how a run is given, of a value of the program
abbrev pub given_said : SourceWords → Given
given_said (source.Schedule text) = by_schedule text.now
given_said source.ReadSchedule = by_schedule_read
given_said (source.Pace until turns early) =
    by_pace until.now (option_map (λ text. text.now) turns) (option_map (λ text. text.now) early)
given_said source.History = by_history

-- how a run is shown, of a value of the program
abbrev pub shown_said : ViewWords → Shown
shown_said (view.Svg first last axis only fold) =
    as_svg (option_map (λ text. text.now) first) (option_map (λ text. text.now) last)
    (option_map (λ text. text.now) axis) (option_map (λ text. text.now) only) fold
shown_said (view.Trace tick) = as_trace (option_map (λ text. text.now) tick)
shown_said (view.Listing listing) = as_listing listing

-- what a search is for, of a value of the program
abbrev pub search_said : SearchWords → SearchSaid
search_said words = record {
  fact = option_map (λ text. text.now) words.fact;
  worst = option_map (λ text. text.now) words.worst;
  process = option_map (λ text. text.now) words.process;
  service = option_map (λ text. text.now) words.service;
  turns = option_map (λ text. text.now) words.turns;
  early = option_map (λ text. text.now) words.early;
  states = option_map (λ text. text.now) words.states;
  jobs = option_map (λ text. text.now) words.jobs;
}

-- how a table is linted, of a value of the program
abbrev pub lint_words_said : LintWords → LintSaid
lint_words_said words = record {
  json = words.json;
  name = option_map (λ text. text.now) words.name;
  allow = option_map (λ text. text.now) words.allow;
}

-- the request of a value of the program
abbrev pub request_said : RequestIn → Request
request_said (request.Show source view) = show_of (given_said source) (shown_said view)
request_said (request.Search words) = search_of (search_said words)
request_said (request.Lint words) = lint_of (lint_words_said words)
request_said (request.Step form) = step_of form
request_said (request.Check form comments) = check_of form comments
request_said (request.Why source entry) = why_of (given_said source) entry.now
request_said (request.Dump source) = dump_of (given_said source)

-- how a run is given, by the text of a schedule: `-` stands for one that is read
abbrev pub given_by_schedule : Text → Given
given_by_schedule text =
    if bytes_eq text (codes "-") then by_schedule_read else by_schedule text

-- how a run is given, by the texts of a schedule, of a time, of the turns a tick and of the
-- percentage, if they are given; none if a schedule and a pace are mixed
abbrev pub given_by : Option Text → Option Text → Option Text → Option Text → Option Given
given_by None (Some until) turns early = Some (by_pace until turns early)
given_by (Some text) None None None = Some (given_by_schedule text)
given_by None None None None = Some by_history
given_by _ _ _ _ = None

-- how a run is given, for the rows of a command
abbrev pub given_in : List Row → Option Given
given_in rows =
    given_by (first_of (codes "schedule") rows) (first_of (codes "until") rows)
    (first_of (codes "turns") rows) (first_of (codes "early") rows)

-- the request of a command that shows a run in this way, for its rows
abbrev pub shown_in : Shown → List Row → Option Request
shown_in shown rows = option_map (λ given. show_of given shown) (given_in rows)

-- how the SVG for the rows of a command is shown
abbrev pub svg_in : List Row → Shown
svg_in rows =
    as_svg (first_of (codes "from") rows) (first_of (codes "to") rows)
    (first_of (codes "by") rows) (first_of (codes "only") rows)
    (says_given (first_of (codes "fold") rows))

-- how the trace for the rows of a command is shown
abbrev pub trace_in : List Row → Shown
trace_in rows = as_trace (first_of (codes "tick-us") rows)

-- the form of a listing, by the text of the flag
abbrev pub form_of : Option Text → Form
form_of json = if says_given json then forms.Json else forms.Text

-- the form of the listing for the rows of a command
abbrev pub form_in : List Row → Form
form_in rows = form_of (first_of (codes "json") rows)

-- how the command of this name shows a run, by its rows
abbrev pub view_of : Text → List Row → Option Shown
view_of name rows =
    if bytes_eq name (codes "svg") then Some (svg_in rows)
    else if bytes_eq name (codes "trace") then Some (trace_in rows)
    else if bytes_eq name (codes "lines") then Some (as_listing (Lines (form_in rows)))
    else if bytes_eq name (codes "status") then Some (as_listing (Status (form_in rows)))
    else if bytes_eq name (codes "report") then Some (as_listing (Report (form_in rows)))
    else if bytes_eq name (codes "schedule") then Some (as_listing Schedule) else None

-- the run that the command of this name shows, by its rows
abbrev pub showing_in : Text → List Row → Option Request
showing_in name rows = option_and_then (λ shown. shown_in shown rows) (view_of name rows)

-- the search for the rows of a command
abbrev pub search_in : List Row → SearchSaid
search_in rows = record {
  fact = first_of (codes "for") rows;
  worst = first_of (codes "worst") rows;
  process = first_of (codes "process") rows;
  service = first_of (codes "service") rows;
  turns = first_of (codes "turns") rows;
  early = first_of (codes "early") rows;
  states = first_of (codes "states") rows;
  jobs = first_of (codes "jobs") rows;
}

-- how a table is linted, for the rows of a command
abbrev pub lint_in : List Row → LintSaid
lint_in rows = record {
  json = says_given (first_of (codes "json") rows);
  name = first_of (codes "name") rows;
  allow = first_of (codes "allow") rows;
}

-- the history that the rows of a command ask to explain may have comments
abbrev pub comments_in : List Row → Bool
comments_in rows = says_given (first_of (codes "comments") rows)

-- the entry whose reason the rows of a command ask for; none if none is given
abbrev pub why_in : List Row → Option Request
why_in rows =
    option_and_then (λ given. option_map (why_of given) (first_of (codes "entry") rows))
    (given_in rows)

-- the run whose value changes the rows of a command ask for
abbrev pub dump_in : List Row → Option Request
dump_in rows = option_map dump_of (given_in rows)

-- what the command of this name asks for, with its rows
abbrev pub request_in : Text × List Row → Option Request
request_in found =
    if bytes_eq found.0 (codes "search") then Some (search_of (search_in found.1))
    else if bytes_eq found.0 (codes "lint") then Some (lint_of (lint_in found.1))
    else if bytes_eq found.0 (codes "step") then Some (step_of (form_in found.1))
    else if bytes_eq found.0 (codes "check")
    then Some (check_of (form_in found.1) (comments_in found.1))
    else if bytes_eq found.0 (codes "why") then why_in found.1
    else if bytes_eq found.0 (codes "vcd") then dump_in found.1
    else showing_in found.0 found.1

-- what the words ask for; none if they ask for nothing that the program does
abbrev pub request_of : List Text → Option Request
request_of words = request_by request_in lab words
