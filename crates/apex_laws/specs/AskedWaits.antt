-- The facts about waits in every run: a waiting process asked for its wait with its latest call, and
-- waits for what is not there.
use Rattle.std.specs.Prelude.{◌≡◌, ℕ, ◌+◌, Bool, List, [], Option, None, Some, length, count_by, option_and_then, if◌then◌else◌}
use Rattle.apex_laws.specs.Terms.{Call, Entry, Message, Queue, Record, Wait}
use Rattle.apex_types.specs.declared.calls.BlackboardService.TheVariants as blackboard
use Rattle.apex_types.specs.declared.calls.BufferService.TheVariants as buffer
use Rattle.apex_types.specs.declared.calls.Call.TheVariants as call
use Rattle.apex_types.specs.declared.calls.CallerCall.TheVariants.{SuspendSelf}
use Rattle.apex_types.specs.declared.calls.EventFlagService.TheVariants as event_flag
use Rattle.apex_types.specs.declared.calls.MutexService.TheVariants as mutex
use Rattle.apex_types.specs.declared.calls.ObjectCall.TheVariants.{KindService}
use Rattle.apex_machine.specs.declared.records.Queue.TheVariants as queues
use Rattle.apex_types.specs.declared.calls.SemaphoreService.TheVariants as semaphore
use Rattle.apex_types.specs.declared.calls.TimeCall.TheVariants.{TimedWait}
use Rattle.apex_machine.specs.declared.records.Wait.TheVariants.{Time, Semaphore, Receive, Send, Blackboard, EventFlag, Mutex}
use Rattle.apex_machine.specs.processes.Queues.{queue_of}
use Rattle.apex_machine.specs.processes.Roster.{Roster, record_at}
use Rattle.apex_machine.specs.processes.Stamps.{is_by_itself}
use Rattle.apex_machine.specs.services.Calls.{names, is_wait, is_signal}
use Rattle.apex_machine.specs.services.Satisfied.{latest_call, calls_where, semaphore_value}

-- value v accounts for these calls: v plus the waits is the initial value plus the signals
abbrev pub Accounts : ℕ → List Call → ℕ → Type 0
Accounts initial calls v = v + count_by is_wait calls ≡ initial + count_by is_signal calls

-- the value of semaphore s accounts for all its satisfied calls: no more waits are satisfied than
-- its initial value and its signals allow
abbrev pub IsAccounted : ℕ → ℕ → List Entry → Type 0
IsAccounted initial s history =
    Accounts initial (calls_where (names (queues.Semaphore s)) history)
    (semaphore_value initial s history)

-- the wait that a call begins if it is not answered at once
abbrev pub begins : Call → Option Wait
begins (call.Semaphore (KindService s (semaphore.Wait timeout))) = Some (Semaphore s)
begins (call.Buffer (KindService b (buffer.Send message timeout))) = Some (Send b message)
begins (call.Buffer (KindService b (buffer.Receive timeout))) = Some (Receive b)
begins (call.Blackboard (KindService b (blackboard.Read timeout))) = Some (Blackboard b)
begins (call.EventFlag (KindService e (event_flag.Wait timeout))) = Some (EventFlag e)
begins (call.Mutex (KindService m (mutex.Acquire timeout))) = Some (Mutex m)
begins (call.Time (TimedWait timeout)) = Some Time
begins (call.Caller (SuspendSelf timeout)) = Some Time
begins _ = None

-- a wait that the process asked for itself, and not that for its start
abbrev pub asked_of : Option Wait → Option Wait
asked_of (Some Time) = Some Time
asked_of (Some (Semaphore s)) = Some (Semaphore s)
asked_of (Some (Receive b)) = Some (Receive b)
asked_of (Some (Send b message)) = Some (Send b message)
asked_of (Some (Blackboard b)) = Some (Blackboard b)
asked_of (Some (EventFlag e)) = Some (EventFlag e)
asked_of (Some (Mutex m)) = Some (Mutex m)
asked_of _ = None

-- this wait; without one, a wait for time if the process suspended itself
abbrev pub or_suspended : Option Wait → Bool → Option Wait
or_suspended (Some w) by_itself = Some w
or_suspended None by_itself = if by_itself then Some Time else None

-- the wait that the process asked for: for an object, or for time
abbrev pub awaited : Record → Option Wait
awaited r = or_suspended (asked_of r.wait) (is_by_itself r.suspended)

-- a process in a wait that it asked for has, as the latest call of its own, one that begins that
-- wait
abbrev pub AreAsked : Roster → List Entry → Type 0
AreAsked roster history = (p : ℕ) (w : Wait) → awaited (record_at roster p) ≡ Some w
    → option_and_then begins (latest_call p history) ≡ Some w

-- a process that asked for its wait in the queue waits for what is not there
abbrev pub AreHeldBack : (Wait → Type 0) → Queue → Roster → Type 0
AreHeldBack Lacks queue roster = (p : ℕ) (w : Wait) → awaited (record_at roster p) ≡ Some w
    → queue_of w ≡ Some queue → Lacks w

-- a buffer of this capacity that holds these messages lacks what the wait is for: a receiver waits
-- if it is empty, a sender if it is full
abbrev pub LacksMessage : ℕ → List Message → Wait → Type 0
LacksMessage capacity messages (Receive b) = messages ≡ []
LacksMessage capacity messages (Send b message) = length messages ≡ capacity
LacksMessage capacity messages _ = Unit {0}
