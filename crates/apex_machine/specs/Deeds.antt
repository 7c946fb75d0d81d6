-- What is done at an event: a step of the init list or of a script, the end of work, an idle turn, or
-- a tick. A deed needs no history: it is of the processes' records, of the objects and of the work
-- that is open.
use Rattle.std.specs.Prelude.{ℕ, ◌+◌, ◌-◌, Bool, true, false, List, length, Option, None, Some, nat_lt, if◌then◌else◌}
use Rattle.apex_machine.specs.Terms.{Call, Caller, OpenWork}
use Rattle.apex_types.specs.declared.calls.Call.TheVariants.{Partition, Process as ToProcess, Caller as ToCaller, Time, Semaphore, Buffer, Blackboard, EventFlag as ToEventFlag, Mutex, Work as ToWork}
use Rattle.apex_types.specs.declared.calls.CallerCall.TheVariants.{StopSelf}
use Rattle.apex_types.specs.declared.entries.Caller.TheVariants.{Process, Init, Nobody}
use Rattle.apex_types.specs.declared.entries.Reply.TheVariants.{Idle, Begun, Done, Lost, Advanced}
use Rattle.apex_machine.specs.table.Table.{Table, ProcessConfig, process_config, call_in}
use Rattle.apex_machine.specs.processes.Roster.{Roster, record_at}
use Rattle.apex_machine.specs.processes.Running.{chosen}
use Rattle.apex_machine.specs.processes.Stamps.{set_step}
use Rattle.apex_machine.specs.services.Rows.{Outcome, replied, within}
use Rattle.apex_machine.specs.services.Objects.{object_deed}
use Rattle.apex_machine.specs.services.ProcessServices.{ProcessObject, process_kind}
use Rattle.apex_machine.specs.services.SemaphoreServices.{SemaphoreObject, semaphore_kind}
use Rattle.apex_machine.specs.services.BufferServices.{BufferObject, buffer_kind}
use Rattle.apex_machine.specs.services.BlackboardServices.{BlackboardObject, blackboard_kind}
use Rattle.apex_machine.specs.services.EventFlagServices.{EventFlagObject, event_flag_kind}
use Rattle.apex_machine.specs.services.MutexServices.{MutexObject, mutex_kind}
use Rattle.apex_machine.specs.services.Calls.{is_work}
use Rattle.apex_machine.specs.services.CallerServices.{caller_service}
use Rattle.apex_machine.specs.services.TimeServices.{time_service}
use Rattle.apex_machine.specs.services.PartitionServices.{partition_service}
use Rattle.apex_machine.specs.Ticks.{tick_goal, pass_time}

-- the objects, which the services see besides the processes' records
pub record Objects : Type 0 where
  pub processes : List ProcessObject
  pub semaphores : List SemaphoreObject
  pub buffers : List BufferObject
  pub blackboards : List BlackboardObject
  pub event_flags : List EventFlagObject
  pub mutexes : List MutexObject

-- the objects, with these of one kind
abbrev pub with_processes : Objects → List ProcessObject → Objects
with_processes objects processes = record objects { processes = processes }

abbrev pub with_semaphores : Objects → List SemaphoreObject → Objects
with_semaphores objects semaphores = record objects { semaphores = semaphores }

abbrev pub with_buffers : Objects → List BufferObject → Objects
with_buffers objects buffers = record objects { buffers = buffers }

abbrev pub with_blackboards : Objects → List BlackboardObject → Objects
with_blackboards objects blackboards = record objects { blackboards = blackboards }

abbrev pub with_event_flags : Objects → List EventFlagObject → Objects
with_event_flags objects event_flags = record objects { event_flags = event_flags }

abbrev pub with_mutexes : Objects → List MutexObject → Objects
with_mutexes objects mutexes = record objects { mutexes = mutexes }

-- service: the outcome of the caller's call
abbrev pub service : Roster → Objects → Caller → Call → Outcome Objects
service roster objects caller (Partition call) = partition_service roster objects call
service roster objects caller (ToProcess call) =
    within (with_processes objects) (object_deed process_kind roster objects.processes caller call)
service roster objects caller (ToCaller call) = caller_service roster objects caller call
service roster objects caller (Time call) = time_service roster objects caller call
service roster objects caller (Semaphore call) =
    within (with_semaphores objects)
    (object_deed semaphore_kind roster objects.semaphores caller call)
service roster objects caller (Buffer call) =
    within (with_buffers objects) (object_deed buffer_kind roster objects.buffers caller call)
service roster objects caller (Blackboard call) =
    within (with_blackboards objects)
    (object_deed blackboard_kind roster objects.blackboards caller call)
service roster objects caller (ToEventFlag call) =
    within (with_event_flags objects)
    (object_deed event_flag_kind roster objects.event_flags caller call)
service roster objects caller (Mutex call) =
    within (with_mutexes objects) (object_deed mutex_kind roster objects.mutexes caller call)
service roster objects caller (ToWork amount) = replied roster objects Begun

-- a call that was carried out, or none at an idle turn and a tick
pub record Deed : Type 0 where
  pub caller : Caller
  pub call : Option Call
  pub outcome : Outcome Objects

-- the caller's call is carried out
abbrev pub served : Roster → Objects → Caller → Call → Deed
served roster objects caller call =
    record { caller = caller; call = Some call; outcome = service roster objects caller call }

-- the place after this one; after its last step a looping script goes to the first one, any other
-- to its end
abbrev pub next_place : ProcessConfig → ℕ → ℕ
next_place entry step =
    if nat_lt (step + 1) (length entry.script) then step + 1
    else if entry.loops then 0 else length entry.script

-- the place of process p goes on to its next step
abbrev pub move_on : Table → Roster → ℕ → Roster
move_on table roster p =
    set_step roster p (next_place (process_config table p) (record_at roster p).step)

-- each step moves the place first, except for work, which moves it when it is done
abbrev pub moved_for : Table → Roster → ℕ → Call → Roster
moved_for table roster p call = if is_work call then roster else move_on table roster p

-- process p carries out its step; the end of a script is STOP_SELF
abbrev pub script_deed : Table → Roster → Objects → ℕ → Option Call → Deed
script_deed table roster objects p None = served roster objects (Process p) (ToCaller StopSelf)
script_deed table roster objects p (Some call) =
    served (moved_for table roster p call) objects (Process p) call

-- the end of work: if its process kept the core it is done, and the process goes on in its script;
-- else it is lost
abbrev pub ended : Table → Roster → Objects → ℕ → Bool → Outcome Objects
ended table roster objects p true = replied (move_on table roster p) objects Done
ended table roster objects p false = replied roster objects Lost

-- work that the core has begun ends
abbrev pub ended_deed : Table → Roster → Objects → OpenWork → Deed
ended_deed table roster objects o = record {
  caller = Process o.work.process;
  call = Some (ToWork o.work.amount);
  outcome = ended table roster objects o.work.process o.unbroken;
}

-- the call of the step of process p
abbrev pub step_of : Table → Roster → ℕ → Option Call
step_of table roster p = call_in (process_config table p).script (record_at roster p).step

-- the chosen process carries out its step; without one the turn is idle
abbrev pub chosen_deed : Table → Roster → Objects → Option ℕ → Deed
chosen_deed table roster objects None =
    record { caller = Nobody; call = None; outcome = replied roster objects Idle }
chosen_deed table roster objects (Some p) =
    script_deed table roster objects p (step_of table roster p)

-- an init step that is due comes before all scripts
abbrev pub step_deed : Table → Roster → Objects → ℕ → Option Call → Deed
step_deed table roster objects core (Some call) = served roster objects Init call
step_deed table roster objects core None = chosen_deed table roster objects (chosen roster core)

-- work that the core has begun ends before all else
abbrev pub turn_deed : Table → Roster → Objects → ℕ → Option OpenWork → Option Call → Deed
turn_deed table roster objects core (Some o) due = ended_deed table roster objects o
turn_deed table roster objects core None due = step_deed table roster objects core due

-- the deed of a tick of n: time goes on, and no object changes
abbrev pub tick_deed : Roster → Objects → ℕ → Deed
tick_deed roster objects n =
    let passed = pass_time roster n in record {
      caller = Nobody;
      call = None;
      outcome = record {
        roster = passed.roster;
        object = objects;
        reply = Advanced n (tick_goal roster n - roster.now);
        notices = passed.notices;
      };
    }
