-- The text of an answer in either form: its lines, or its objects of JSON, a line each.
use Rattle.std.specs.Prelude.{ℕ, zero, suc, Bool, true, List, [], ◌∷◌, ◌++◌, length, drop, flat_map, Option, Some, None, codes, decimal, is_some, ◌||◌, if◌then◌else◌}
use Rattle.apex_machine.specs.Machine.{Machine, situation_of}
use Rattle.apex_machine.specs.Situations.{Situation, due_call}
use Rattle.apex_machine.specs.processes.Dues.{next_instant}
use Rattle.apex_machine.specs.processes.Running.{chosen}
use Rattle.apex_machine.specs.table.Table.{Table}
use Rattle.apex_machine.specs.text.Listing.{listing}
use Rattle.apex_machine.specs.text.Texts.{id_text}
use Rattle.apex_calls.specs.Lines.{line_of}
use Rattle.apex_objects.specs.Answers.{count_object, fault_object, front_object, next_object}
use Rattle.apex_objects.specs.Entries.{entry_object}
use Rattle.apex_objects.specs.Listing.{listing_objects}
use Rattle.apex_json.specs.Forms.{in_form}
use Rattle.apex_json.specs.declared.Form.{Form}
use Rattle.apex_json.specs.declared.Form.TheVariants.{Text, Json}
use Rattle.apex_steps.specs.Sessions.{Session}
use Rattle.apex_steps.specs.Terms.{Entry}
use Rattle.apex_steps.specs.declared.answers.Answered.{Answered}
use Rattle.apex_steps.specs.declared.answers.Saying.{Saying}
use Rattle.apex_steps.specs.declared.answers.Saying.TheVariants.{Refused, Done, State, Next, Front, Made}
use Rattle.apex_steps.specs.declared.refusals.Refusal.{Refusal}
use Rattle.apex_steps.specs.declared.refusals.Refusal.TheVariants.{NoCommand, NoSuchCore, NoSuchMark, TooLong, NoLineFeed}

-- ---- the cores

-- the core has something to do: work is open there, an init step is due or a process runs
unfoldable pub has_something_to_do : Table → Situation → ℕ → Bool
has_something_to_do table s core =
    is_some (s.works core) || is_some (due_call table s core) || is_some (chosen s.roster core)

-- those of the first n cores that pass this test
abbrev pub cores_that : (ℕ → Bool) → ℕ → List ℕ
cores_that test zero = []
cores_that test (suc n) = cores_that test n ++ (if test n then n ∷ [] else [])

-- what each of the first n cores has
abbrev pub on_cores : {A : Type 0} → (ℕ → A) → ℕ → List A
on_cores has zero = []
on_cores has (suc n) = on_cores has n ++ has n ∷ []

-- the cores that have something to do
abbrev pub busy_cores : Table → Machine → List ℕ
busy_cores table machine =
    cores_that (has_something_to_do table (situation_of table machine)) table.cores

-- the process that each core runs
abbrev pub running_in : Table → Machine → List (Option ℕ)
running_in table machine = on_cores (chosen machine.roster) table.cores

-- ---- parts of lines

-- a number behind a space
abbrev pub number_behind : ℕ → List ℕ
number_behind n = codes " " ++ decimal n

-- the instant, or `-` for none
abbrev pub instant_text : Option ℕ → List ℕ
instant_text None = codes "-"
instant_text (Some instant) = decimal instant

-- the id of the process that a core runs, or `-`, behind a space
abbrev pub running_text : Option ℕ → List ℕ
running_text None = codes " -"
running_text (Some p) = codes " " ++ id_text p

-- the reason why a line is not carried out
abbrev pub reason_text : Refusal → List ℕ
reason_text NoCommand = codes "no command"
reason_text NoSuchCore = codes "no such core"
reason_text NoSuchMark = codes "no such mark"
reason_text TooLong = codes "line too long"
reason_text NoLineFeed = codes "no line feed"

-- `ok`, or `full` if events were left for which the history has no room
abbrev pub closing_word : Bool → List ℕ
closing_word fits = if fits then codes "ok" else codes "full"

-- ---- what is said

-- `fault`, and the reason
unfoldable pub fault_in : Form → Refusal → List ℕ
fault_in Text refusal = codes "fault " ++ reason_text refusal ++ codes "\n"
fault_in Json refusal = fault_object (reason_text refusal)

-- `ok` or `full`, and the number of entries that the history has
unfoldable pub closing_in : Form → Bool → Machine → List ℕ
closing_in Text fits machine =
    closing_word fits ++ number_behind (length machine.history) ++ codes "\n"
closing_in Json fits machine = count_object (closing_word fits) (length machine.history)

-- `next`, the next instant at which a wait ends by itself or a deadline expires, and the cores that
-- have something to do
unfoldable pub next_in : Form → Table → Machine → List ℕ
next_in Text table machine =
    codes "next " ++ instant_text (next_instant machine.roster)
    ++ flat_map number_behind (busy_cores table machine) ++ codes "\n"
next_in Json table machine = next_object (next_instant machine.roster) (busy_cores table machine)

-- `front`, the number of entries, the time, and the process that each core runs
unfoldable pub front_in : Form → Table → Machine → List ℕ
front_in Text table machine =
    codes "front" ++ number_behind (length machine.history) ++ number_behind machine.roster.now
    ++ flat_map running_text (running_in table machine) ++ codes "\n"
front_in Json table machine =
    front_object table (length machine.history) machine.roster.now (running_in table machine)

-- an entry of the history
abbrev pub entry_in : Form → Table → Entry → List ℕ
entry_in form table entry = in_form form (line_of table entry) (entry_object table entry)

-- the listing of the state
abbrev pub listing_in : Form → Table → Machine → List ℕ
listing_in form table machine =
    in_form form (listing table machine) (listing_objects table machine)

-- ---- answers

-- the text of an answer before its last line
abbrev pub body_in : Form → Saying → Table → Machine → List ℕ
body_in form (Refused refusal) table machine = []
body_in form Done table machine = []
body_in form State table machine = listing_in form table machine
body_in form Next table machine = next_in form table machine
body_in form Front table machine = front_in form table machine
body_in form (Made from fits) table machine =
    flat_map (entry_in form table) (drop from machine.history)

-- the last line of an answer
abbrev pub last_in : Form → Saying → Machine → List ℕ
last_in form (Refused refusal) machine = fault_in form refusal
last_in form (Made from fits) machine = closing_in form fits machine
last_in form saying machine = closing_in form true machine

-- all lines of an answer
unfoldable pub text_of : Form → Saying → Table → Machine → List ℕ
text_of form saying table machine = body_in form saying table machine ++ last_in form saying machine

-- what is said about a session
abbrev pub text_in : Form → Saying → Session → List ℕ
text_in form saying session = text_of form saying session.table session.machine

-- the same of an answer to a line
abbrev pub answer_text : Form → Answered → List ℕ
answer_text form answered = text_in form answered.saying answered.session
