-- The rows of a report, each in both forms (this profile): a line, or a JSON object. A row is a head with a
-- name or a number, the members behind it, and the end.
use Rattle.std.specs.Prelude.{ℕ, List, [], ◌∷◌, ◌++◌, Bool, true, Option, None, Some, codes, decimal, option_map, if◌then◌else◌}
use Rattle.apex_json.specs.Forms.{in_form}
use Rattle.apex_json.specs.declared.Form.TheVariants.{Text, Json}
use Rattle.apex_calls.specs.Catalogue.{row_of}
use Rattle.apex_machine.specs.declared.records.Queue.TheVariants as queues
use Rattle.apex_machine.specs.table.Table.{Table}
use Rattle.apex_machine.specs.text.Texts.{object_name, process_name}
use Rattle.apex_report.specs.Cores.{busy_percent}
use Rattle.apex_report.specs.Jobs.{response}
use Rattle.apex_report.specs.Members.{key_in, members_in, name_in, Member}
use Rattle.apex_report.specs.Ownerships.{held_ticks}
use Rattle.apex_report.specs.Refusals.{some_refused}
use Rattle.apex_report.specs.Terms.{CoreFigures, Form, JobFigures, ObjectFigures, Ownership, ProcessFigures, Queue, Refusals, ServiceFigures}

-- the end of a row
abbrev pub end_in : Form → List ℕ
end_in form = in_form form (codes "\n") (codes "}")

-- the turns of a process, the deadlines that it missed, and its waits that timed out
abbrev pub turn_members : ProcessFigures → List Member
turn_members f =
    (codes "turns", Some f.turns) ∷ (codes "misses", Some f.misses)
    ∷ (codes "timeouts", Some f.timeouts) ∷ []

-- the work of a process or a core: what is done, and what was lost
abbrev pub work_members : ℕ → ℕ → List Member
work_members done lost = (codes "work_done", Some done) ∷ (codes "work_lost", Some lost) ∷ []

-- the numbers of jobs
abbrev pub job_members : JobFigures → List Member
job_members f =
    (codes "releases", Some f.releases) ∷ (codes "completions", Some f.completions)
    ∷ (codes "stops", Some f.stops) ∷ []

-- the release of the open job, the best and the worst response, and the end of the job that had the
-- worst one
abbrev pub response_members : JobFigures → List Member
response_members f =
    (codes "open", f.open_since) ∷ (codes "best", option_map response f.best)
    ∷ (codes "worst", option_map response f.worst)
    ∷ (codes "at", option_map (λ job. job.number) f.worst) ∷ []

-- the number of replies with each code
abbrev pub refusal_members : Refusals → List Member
refusal_members r =
    (codes "NO_ACTION", Some r.no_action) ∷ (codes "NOT_AVAILABLE", Some r.not_available)
    ∷ (codes "INVALID_PARAM", Some r.invalid_param)
    ∷ (codes "INVALID_CONFIG", Some r.invalid_config)
    ∷ (codes "INVALID_MODE", Some r.invalid_mode) ∷ []

-- the members of a process, without its refusals
abbrev pub process_members : ProcessFigures → List Member
process_members f =
    turn_members f ++ work_members f.work_done f.work_lost ++ job_members f.jobs
    ++ response_members f.jobs

-- the row of a process: `process N turns=T misses=M timeouts=O work_done=D work_lost=L releases=R
-- completions=C stops=S open=I best=B worst=W at=E`, and then each code with the number of its replies
abbrev pub process_row : Form → Table → ProcessFigures → List ℕ
process_row form table f =
    in_form form (codes "process ") (codes "{\"process\":") ++ name_in form (process_name table f.process)
    ++ members_in form (process_members f) ++ members_in form (refusal_members f.refusals)
    ++ end_in form

-- the turns of a core
abbrev pub core_turn_members : CoreFigures → List Member
core_turn_members f =
    (codes "turns", Some f.turns) ∷ (codes "idle", Some f.idle) ∷ (codes "calls", Some f.calls)
    ∷ (codes "lost", Some f.lost) ∷ []

-- the ticks of a core; no percent if no tick has passed
abbrev pub tick_members : CoreFigures → List Member
tick_members f =
    (codes "busy_ticks", Some f.busy_ticks) ∷ (codes "idle_ticks", Some f.idle_ticks)
    ∷ (codes "busy_percent", busy_percent f) ∷ []

-- the members of a core
abbrev pub core_members : CoreFigures → List Member
core_members f = core_turn_members f ++ work_members f.work_done f.work_lost ++ tick_members f

-- the row of a core: `core C turns=T idle=I calls=N lost=L work_done=D work_lost=W busy_ticks=B
-- idle_ticks=R busy_percent=P`
abbrev pub core_row : Form → CoreFigures → List ℕ
core_row form f =
    in_form form (codes "core ") (codes "{\"core\":") ++ decimal f.core ++ members_in form (core_members f)
    ++ end_in form

-- the kind of an object
abbrev pub kind_name : Queue → List ℕ
kind_name queues.Normal = []
kind_name (queues.Semaphore s) = codes "semaphore"
kind_name (queues.Buffer b) = codes "buffer"
kind_name (queues.Blackboard b) = codes "blackboard"
kind_name (queues.EventFlag e) = codes "event"
kind_name (queues.Mutex m) = codes "mutex"

-- the kind and the name of an object
abbrev pub object_head : Form → Table → Queue → List ℕ
object_head form table queue =
    in_form form (codes "") (codes "{\"kind\":\"") ++ kind_name queue
    ++ in_form form (codes " ") (codes "\",\"object\":") ++ name_in form (object_name table queue)

-- the greatest value of a semaphore, or the greatest number of messages in a buffer
abbrev pub greatest_members : ObjectFigures → List Member
greatest_members f =
    (codes "greatest", option_map (λ level. level.count) f.greatest)
    ∷ (codes "greatest_at", option_map (λ level. level.number) f.greatest) ∷ []

-- the same, if it is a semaphore or a buffer
abbrev pub content_in : Form → Queue → ObjectFigures → List ℕ
content_in form (queues.Semaphore s) f = members_in form (greatest_members f)
content_in form (queues.Buffer b) f = members_in form (greatest_members f)
content_in form _ f = []

-- the longest queue, and the waits that timed out
abbrev pub queue_members : ObjectFigures → List Member
queue_members f =
    (codes "queue", option_map (λ level. level.count) f.longest_queue)
    ∷ (codes "queue_at", option_map (λ level. level.number) f.longest_queue)
    ∷ (codes "timeouts", Some f.timeouts) ∷ []

-- the length of an ownership, in ticks
abbrev pub held_member : Option Ownership → Member
held_member ownership = (codes "held", option_map held_ticks ownership)

-- the entry that ended it
abbrev pub held_at_member : Option Ownership → Member
held_at_member ownership = (codes "held_at", option_map (λ ownership. ownership.number) ownership)

-- the process of an ownership, or the sign for none
abbrev pub holder_in : Form → Table → Option Ownership → List ℕ
holder_in form table None = in_form form (codes "-") (codes "null")
holder_in form table (Some ownership) = name_in form (process_name table ownership.process)

-- the same, behind its key
abbrev pub held_by_in : Form → Table → Option Ownership → List ℕ
held_by_in form table ownership = key_in form (codes "held_by") ++ holder_in form table ownership

-- the longest ownership: in a line its process stands before the entry that ended it, in JSON behind it
abbrev pub longest_in : Form → Table → Option Ownership → List ℕ
longest_in Text table o =
    members_in Text (held_member o ∷ []) ++ held_by_in Text table o
    ++ members_in Text (held_at_member o ∷ [])
longest_in Json table o =
    members_in Json (held_member o ∷ held_at_member o ∷ []) ++ held_by_in Json table o

-- the same, if it is a mutex
abbrev pub ownership_in : Form → Table → Queue → ObjectFigures → List ℕ
ownership_in form table (queues.Mutex m) f = longest_in form table f.longest_ownership
ownership_in form table _ f = []

-- the row of an object: `semaphore N greatest=G greatest_at=E queue=Q queue_at=E timeouts=T`, and so a
-- buffer; a blackboard, an event flag and a mutex without the greatest content; and behind them for a
-- mutex `held=H held_by=P held_at=E`
abbrev pub object_row : Form → Table → ObjectFigures → List ℕ
object_row form table f =
    object_head form table f.object ++ content_in form f.object f ++ members_in form (queue_members f)
    ++ ownership_in form table f.object f
    ++ end_in form

-- the row of a service: `service S`, and each code with the number of its replies
abbrev pub counted_row : Form → ServiceFigures → List ℕ
counted_row form f =
    in_form form (codes "service ") (codes "{\"service\":\"") ++ (row_of f.service).word
    ++ in_form form (codes "") (codes "\"")
    ++ members_in form (refusal_members f.refusals)
    ++ end_in form

-- JSON has each service, and lines have those that refused a call
abbrev pub is_listed : Form → ServiceFigures → Bool
is_listed form f = in_form form (some_refused f.refusals) true

-- the same, or nothing if the form leaves it out
abbrev pub service_row : Form → ServiceFigures → List ℕ
service_row form f = if is_listed form f then counted_row form f else []

-- a row of a list of the report behind others: in JSON with `,` between them
abbrev pub behind_text : {X : Type 0} → Form → (X → List ℕ) → X → List ℕ
behind_text form text x = in_form form (codes "") (codes ",\n") ++ text x
