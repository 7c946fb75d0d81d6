-- What a search is asked for.
use Rattle.std.specs.Prelude.{ℕ, Option, Some, None, if◌then◌else◌, option_and_then, option_map}
use Rattle.clap.specs.Words.{Text}
use Rattle.apex_types.specs.Name.{is_name}
use Rattle.apex_calls.specs.Catalogue.{Row, row_in, rows}
use Rattle.apex_calls.specs.declared.Service.{Service}
use Rattle.apex_pace.specs.declared.paces.Pace.{Pace}
use Rattle.apex_questions.specs.Words.{fact_of}
use Rattle.apex_tasks.specs.Numbers.{jobs_in, pace_in, room_in}
use Rattle.apex_tasks.specs.Words.{SearchSaid}
use Rattle.apex_questions.specs.declared.Search.{Search}
use Rattle.apex_questions.specs.declared.Sought.{Sought}
use Rattle.apex_questions.specs.declared.Sought.TheVariants.{Fact, Facts, Response}

-- the name that a text is
abbrev pub name_of : Text → Option Text
name_of text = if is_name text then Some text else None

-- the process that is asked for, if one is: its text has to be a name
abbrev pub process_said : Option Text → Option (Option Text)
process_said None = Some None
process_said (Some text) = option_map Some (name_of text)

-- the service that a word asks for, in a step of a script
abbrev pub service_of : Text → Option Service
service_of word = option_map (λ (r : Row). r.service) (row_in rows word)

-- the service that is asked for, if one is: its text has to be a service's word
abbrev pub service_said : Option Text → Option (Option Service)
service_said None = Some None
service_said (Some text) = option_map Some (service_of text)

-- what is looked for, with the process and the service that are asked for
abbrev pub about : (Option Text → Option Service → Sought) → Option Text → Option Text
    → Option Sought
about sought process service =
    option_and_then (λ p. option_map (sought p) (service_said service)) (process_said process)

-- what is looked for, by the texts of a fact, of the process whose greatest response is asked for, of a
-- process and of a service: one fact, or else each; a greatest response is asked for alone
abbrev pub sought_by : Option Text → Option Text → Option Text → Option Text → Option Sought
sought_by None (Some name) None None = option_map Response (name_of name)
sought_by (Some word) None process service =
    option_and_then (λ fact. about (Fact fact) process service) (fact_of word)
sought_by None None process service = about Facts process service
sought_by _ _ _ _ = None

-- a search for this, at a pace, with room for this many states, by this many jobs
abbrev pub search_for : Sought → Pace → ℕ → ℕ → Search
search_for sought pace room jobs = record {
  sought = sought;
  pace = pace;
  room = room;
  jobs = jobs;
}

-- the search that texts ask for; none if one is ill-formed
abbrev pub search_asked : SearchSaid → Option Search
search_asked said =
    option_and_then (λ sought. option_and_then
    (λ pace. option_and_then
    (λ room. option_map (search_for sought pace room) (jobs_in said.jobs))
    (room_in said.states))
    (pace_in said.turns said.early))
    (sought_by said.fact said.worst said.process said.service)
