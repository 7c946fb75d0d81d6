-- What a call does, as far as a warning asks for it.
use Rattle.std.specs.Prelude.{ℕ, Bool, true, false, Option, None, Some, option_map, nat_le, nat_lt, ◌==◌, ◌&&◌, not}
use Rattle.apex_warnings.specs.Terms.{Act, Call, Message, ObjectCall, Queue, Timeout}
use Rattle.apex_warnings.specs.declared.acts.Act.TheVariants as act
use Rattle.apex_types.specs.declared.calls.BlackboardService.TheVariants.{Display}
use Rattle.apex_types.specs.declared.calls.BufferService.TheVariants.{Send}
use Rattle.apex_types.specs.declared.calls.Call.TheVariants.{Process, Time, Semaphore, Buffer, Blackboard, EventFlag, Mutex}
use Rattle.apex_types.specs.declared.calls.EventFlagService.TheVariants.{Set}
use Rattle.apex_types.specs.declared.calls.ObjectCall.TheVariants.{Create, GetId, GetStatus, KindService}
use Rattle.apex_types.specs.declared.calls.ProcessService.TheVariants.{InitializeCoreAffinity, SetPriority, Start, DelayedStart}
use Rattle.apex_types.specs.declared.calls.SemaphoreService.TheVariants.{Signal}
use Rattle.apex_types.specs.declared.calls.TimeCall.TheVariants.{PeriodicWait, Replenish}
use Rattle.apex_types.specs.Calls.{known}
use Rattle.apex_machine.specs.declared.records.Queue.TheVariants as queues
use Rattle.apex_machine.specs.processes.Periods.{is_period_long}
use Rattle.apex_machine.specs.processes.Queues.{is_queue}
use Rattle.apex_machine.specs.services.ProcessServices.{delay_ticks, is_infinite}

-- the message has 1 to `length` bytes, so that a buffer or a blackboard of this length takes it
abbrev pub is_taken : ℕ → Message → Bool
is_taken length message = nat_le 1 message.length && nat_le message.length length

-- a process of this period may start after the delay: it is finite, and below the period
abbrev pub is_fit_delay : Option ℕ → Timeout → Bool
is_fit_delay period delay =
    not (is_infinite delay) && not (is_period_long period (delay_ticks delay))

-- the call is START of process p, or DELAYED_START with a delay that its period allows
abbrev pub starts : ℕ → Option ℕ → Call → Bool
starts p period (Process (KindService q Start)) = p == q
starts p period (Process (KindService q (DelayedStart delay))) = p == q && is_fit_delay period delay
starts p period _ = false

-- the call is SET_PRIORITY of process p to 1 or more, and `priority` or less
abbrev pub lowers : ℕ → ℕ → Call → Bool
lowers p priority (Process (KindService q (SetPriority base))) =
    p == q && nat_le 1 base && nat_le base priority
lowers p priority _ = false

-- the call is INITIALIZE_PROCESS_CORE_AFFINITY to this core
abbrev pub binds_to : ℕ → Call → Bool
binds_to core (Process (KindService q (InitializeCoreAffinity c))) = core == c
binds_to core _ = false

-- the call is INITIALIZE_PROCESS_CORE_AFFINITY of process p to a core other than core 0
abbrev pub binds_away : ℕ → ℕ → Call → Bool
binds_away p cores (Process (KindService q (InitializeCoreAffinity c))) =
    p == q && nat_le 1 c && nat_lt c cores
binds_away p cores _ = false

-- the thing that the call names, but not one that it creates
abbrev pub used : {I W : Type 0} → ObjectCall I W → Option I
used (Create named) = None
used (GetId named) = known named
used (GetStatus i) = Some i
used (KindService i service) = Some i

-- the object that the call names, by its queue, but not one that it creates
abbrev pub queue_used : Call → Option Queue
queue_used (Semaphore call) = option_map queues.Semaphore (used call)
queue_used (Buffer call) = option_map queues.Buffer (used call)
queue_used (Blackboard call) = option_map queues.Blackboard (used call)
queue_used (EventFlag call) = option_map queues.EventFlag (used call)
queue_used (Mutex call) = option_map queues.Mutex (used call)
queue_used _ = None

-- the call is SIGNAL_SEMAPHORE of semaphore s
abbrev pub signals : ℕ → Call → Bool
signals s (Semaphore (KindService t Signal)) = s == t
signals s _ = false

-- the call is SEND_BUFFER to buffer b of a message that a buffer of this length takes
abbrev pub sends : ℕ → ℕ → Call → Bool
sends b length (Buffer (KindService c (Send message timeout))) = b == c && is_taken length message
sends b length _ = false

-- the call is DISPLAY_BLACKBOARD of a message that a blackboard of this length takes
abbrev pub displays : ℕ → ℕ → Call → Bool
displays b length (Blackboard (KindService c (Display message))) =
    b == c && is_taken length message
displays b length _ = false

-- the call is SET_EVENT of event flag e
abbrev pub sets : ℕ → Call → Bool
sets e (EventFlag (KindService f Set)) = e == f
sets e _ = false

-- the call is PERIODIC_WAIT
abbrev pub waits_for_period : Call → Bool
waits_for_period (Time PeriodicWait) = true
waits_for_period _ = false

-- the call is REPLENISH, which moves the deadline of a job
abbrev pub moves_deadline : Call → Bool
moves_deadline (Time (Replenish budget)) = true
moves_deadline _ = false

-- the call is such an act
abbrev pub does : Act → Call → Bool
does (act.Start p period) call = starts p period call
does (act.Lower p priority) call = lowers p priority call
does (act.BindTo core) call = binds_to core call
does (act.BindAway p cores) call = binds_away p cores call
does (act.Use queue) call = is_queue queue (queue_used call)
does (act.Signal s) call = signals s call
does (act.Send b length) call = sends b length call
does (act.Display b length) call = displays b length call
does (act.Set e) call = sets e call
does act.WaitForPeriod call = waits_for_period call
does act.MoveDeadline call = moves_deadline call
