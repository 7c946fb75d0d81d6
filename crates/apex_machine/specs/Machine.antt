-- The machine: a situation that is read off a history, and the history of each event. It has records,
-- a history, and the records after each entry.
use Rattle.std.specs.Prelude.{ℕ, ◌+◌, List, [], ◌∷◌, ◌++◌, length, map, Option, nat_lt, if◌then◌else◌}
use Rattle.apex_machine.specs.Terms.{Entry, Event, OpenWork, Reply, Who}
use Rattle.apex_types.specs.declared.entries.Event.TheVariants.{Turn, Tick}
use Rattle.apex_types.specs.declared.entries.Reply.TheVariants.{Advanced}
use Rattle.apex_types.specs.declared.entries.Who.TheVariants.{Core, Ticker}
use Rattle.apex_machine.specs.table.Table.{Table}
use Rattle.apex_machine.specs.processes.Roster.{Roster, opening_roster}
use Rattle.apex_machine.specs.History.{init_count}
use Rattle.apex_machine.specs.services.Objects.{objects_of}
use Rattle.apex_machine.specs.services.ProcessServices.{process_kind}
use Rattle.apex_machine.specs.services.SemaphoreServices.{semaphore_kind}
use Rattle.apex_machine.specs.services.BufferServices.{buffer_kind}
use Rattle.apex_machine.specs.services.BlackboardServices.{blackboard_kind}
use Rattle.apex_machine.specs.services.EventFlagServices.{event_flag_kind}
use Rattle.apex_machine.specs.services.MutexServices.{mutex_kind}
use Rattle.apex_machine.specs.Deeds.{Deed, Objects}
use Rattle.apex_machine.specs.Situations.{Situation, deed}
use Rattle.apex_machine.specs.Works.{open_work_of}

-- the state of the machine: its roster, the roster after each entry, and the entries, oldest first
pub record Machine : Type 0 where
  pub roster : Roster
  pub past : List Roster
  pub history : List Entry

-- all objects, read off the whole history
abbrev pub objects_after : Table → List Entry → Objects
objects_after table history = record {
  processes = objects_of process_kind history table.processes;
  semaphores = objects_of semaphore_kind history table.semaphores;
  buffers = objects_of buffer_kind history table.buffers;
  blackboards = objects_of blackboard_kind history table.blackboards;
  event_flags = objects_of event_flag_kind history table.event_flags;
  mutexes = objects_of mutex_kind history table.mutexes;
}

-- the work that is open on the core
abbrev pub open_work : Machine → ℕ → Option OpenWork
open_work machine core = open_work_of core machine.history machine.past

-- the situation of the machine: its objects, its open works and the number of its init steps are
-- read off the whole history
abbrev pub situation_of : Table → Machine → Situation
situation_of table machine = record {
  roster = machine.roster;
  objects = objects_after table machine.history;
  works = open_work machine;
  made = init_count machine.history;
}

-- the deed of a turn of the core
abbrev pub deed_of : Table → Machine → ℕ → Deed
deed_of table machine core = deed table (situation_of table machine) (Turn core)

-- the entry of a deed, with this number in the history
abbrev pub entry_of : ℕ → Who → Deed → Entry
entry_of number who deed = record {
  number = number;
  now = deed.outcome.roster.now;
  who = who;
  process = deed.caller;
  call = deed.call;
  reply = deed.outcome.reply;
  notices = deed.outcome.notices;
}

-- the machine after a deed, which adds its one entry
abbrev pub after_deed : Machine → Who → Deed → Machine
after_deed machine who deed = record {
  roster = deed.outcome.roster;
  past = machine.past ++ deed.outcome.roster ∷ [];
  history = machine.history ++ entry_of (length machine.history + 1) who deed ∷ [];
}

-- turn of a core
unfoldable pub turn : Table → Machine → ℕ → Machine
turn table machine core = after_deed machine (Core core) (deed_of table machine core)

-- tick of n
unfoldable pub tick : Table → Machine → ℕ → Machine
tick table machine n =
    after_deed machine Ticker (deed table (situation_of table machine) (Tick n))

-- an event
abbrev pub happen : Table → Machine → Event → Machine
happen table machine (Turn core) = turn table machine core
happen table machine (Tick n) = tick table machine n

-- an event, if the history has room for its entry; else nothing
abbrev pub accept : Table → Machine → Event → Machine
accept table machine event =
    if nat_lt (length machine.history) table.limit then happen table machine event else machine

-- run: one event after the other
abbrev pub run : Table → Machine → List Event → Machine
run table machine [] = machine
run table machine (event ∷ events) = run table (accept table machine event) events

-- the machine before any event
abbrev pub opening : Table → Machine
opening table = record { roster = opening_roster table; past = []; history = [] }

-- the event that an entry records; the reply of a ticker's entry has the ticks that were asked for
abbrev pub asked_ticks : Reply → ℕ
asked_ticks (Advanced asked went) = asked
asked_ticks _ = 0

abbrev pub event_by : Who → Reply → Event
event_by (Core core) reply = Turn core
event_by Ticker reply = Tick (asked_ticks reply)

abbrev pub event_of : Entry → Event
event_of e = event_by e.who e.reply

abbrev pub events_of : List Entry → List Event
events_of history = map event_of history

-- the run of the events that the history records
abbrev pub replay : Table → List Entry → Machine
replay table history = run table (opening table) (events_of history)

-- the machine with this roster and this history; its past is that of the history's replay
abbrev pub machine_with : Table → Roster → List Entry → Machine
machine_with table roster history =
    record { roster = roster; past = (replay table history).past; history = history }
