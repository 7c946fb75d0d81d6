-- The answer to a command: what is said, and the session behind it.
use Rattle.std.specs.Prelude.{ℕ, ◌+◌, Bool, true, false, List, length, Option, Some, None, nat_le, nat_lt, if◌then◌else◌}
use Rattle.apex_types.specs.declared.limits.TheConstants.{MOST_LINE}
use Rattle.apex_schedules.specs.Schedule.{are_cores_below, events_of_items}
use Rattle.apex_schedules.specs.declared.Item.{Item}
use Rattle.apex_steps.specs.Terms.{Event}
use Rattle.apex_steps.specs.Commands.{Command, makes, lists, looks_ahead, shows_front, marks, goes_back, quits, command_of}
use Rattle.apex_steps.specs.Sessions.{Session, after_events, marked, gone_back}
use Rattle.apex_steps.specs.declared.answers.Answered.{Answered}
use Rattle.apex_steps.specs.declared.answers.Saying.{Saying}
use Rattle.apex_steps.specs.declared.answers.Saying.TheVariants.{Refused, Done, State, Next, Front, Made}
use Rattle.apex_steps.specs.declared.refusals.Refusal.TheVariants.{NoCommand, NoSuchCore, NoSuchMark, TooLong, NoLineFeed}

-- this is said, and the session goes on
abbrev pub says : Saying → Session → Answered
says saying session = record { session = session; saying = saying; is_last = false }

-- the same, and the session ends
abbrev pub ends : Saying → Session → Answered
ends saying session = record { session = session; saying = saying; is_last = true }

-- the history has room for all of these events
abbrev pub has_room_for : List Event → Session → Bool
has_room_for events session =
    nat_le (length session.machine.history + length events) session.table.limit

-- events are made: the lines of the entries that the session has more than before, and whether
-- there was room for all
unfoldable pub made : List Event → Session → Answered
made events session =
    says (Made (length session.machine.history) (has_room_for events session))
    (after_events session events)

-- items are made if the table has their cores
unfoldable pub made_items : List Item → Session → Answered
made_items items session =
    if are_cores_below session.table.cores items then made (events_of_items items) session
    else says (Refused NoSuchCore) session

-- the answer to going back
unfoldable pub gone : Session → Option Session → Answered
gone session None = says (Refused NoSuchMark) session
gone session (Some back) = says Done back

-- the answer to a command
unfoldable pub answer_to : Command → Session → Answered
answer_to (makes items) session = made_items items session
answer_to lists session = says State session
answer_to looks_ahead session = says Next session
answer_to shows_front session = says Front session
answer_to (marks name) session = says Done (marked name session)
answer_to (goes_back name) session = gone session (gone_back name session)
answer_to quits session = ends Done session

-- the answer to a line that is a command, or is none
abbrev pub answer_to_any : Option Command → Session → Answered
answer_to_any None session = says (Refused NoCommand) session
answer_to_any (Some command) session = answer_to command session

-- the answer to a line, which is given without its line feed
unfoldable pub answer : List ℕ → Session → Answered
answer line session =
    if nat_lt MOST_LINE (length line) then says (Refused TooLong) session
    else answer_to_any (command_of line) session

-- the answer to bytes at the end that are no line
abbrev pub unended : Session → Answered
unended session = ends (Refused NoLineFeed) session
