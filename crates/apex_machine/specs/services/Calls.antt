-- The thing that a call names, and the one that it creates.
use Rattle.std.specs.Prelude.{ℕ, Bool, true, false, Option, None, Some, ◌==◌, option_map}
use Rattle.apex_machine.specs.Terms.{Call, Message, Origin, Queue}
use Rattle.apex_types.specs.declared.calls.BlackboardService.TheVariants.{Display, Clear}
use Rattle.apex_types.specs.declared.calls.BufferService.TheVariants.{Send, Receive}
use Rattle.apex_types.specs.declared.calls.Call.TheVariants.{Partition, Process, Caller, Time, Semaphore, Buffer, Blackboard, EventFlag, Mutex, Work}
use Rattle.apex_types.specs.declared.calls.EventFlagService.TheVariants.{Set, Reset}
use Rattle.apex_types.specs.declared.calls.ObjectCall.TheVariants.{KindService}
use Rattle.apex_types.specs.Calls.{creation_of, object_of, object_origin}
use Rattle.apex_types.specs.declared.calls.SemaphoreService.TheVariants.{Wait, Signal}
use Rattle.apex_machine.specs.declared.records.Queue.TheVariants as queues
use Rattle.apex_machine.specs.processes.Queues.{is_queue}

-- the origin of the name that the call gives, if no entry has it
abbrev pub origin_of : Call → Option Origin
origin_of (Partition call) = None
origin_of (Process call) = object_origin call
origin_of (Caller call) = None
origin_of (Time call) = None
origin_of (Semaphore call) = object_origin call
origin_of (Buffer call) = object_origin call
origin_of (Blackboard call) = object_origin call
origin_of (EventFlag call) = object_origin call
origin_of (Mutex call) = object_origin call
origin_of (Work amount) = None

-- the call is work
abbrev pub is_work : Call → Bool
is_work (Work amount) = true
is_work _ = false

-- the message that the call gives, which SEND_BUFFER sends and DISPLAY_BLACKBOARD displays
abbrev pub message_in : Call → Option Message
message_in (Buffer (KindService b (Send message timeout))) = Some message
message_in (Blackboard (KindService b (Display message))) = Some message
message_in _ = None

-- there is such a place, and it is this one
abbrev pub is_place : ℕ → Option ℕ → Bool
is_place s None = false
is_place s (Some t) = s == t

-- the process that the call creates
abbrev pub created_process : Call → Option ℕ
created_process (Process call) = creation_of call
created_process _ = None

-- the semaphore that the call creates
abbrev pub created_semaphore : Call → Option ℕ
created_semaphore (Semaphore call) = creation_of call
created_semaphore _ = None

-- the buffer that the call creates
abbrev pub created_buffer : Call → Option ℕ
created_buffer (Buffer call) = creation_of call
created_buffer _ = None

-- the blackboard that the call creates
abbrev pub created_blackboard : Call → Option ℕ
created_blackboard (Blackboard call) = creation_of call
created_blackboard _ = None

-- the event flag that the call creates
abbrev pub created_event_flag : Call → Option ℕ
created_event_flag (EventFlag call) = creation_of call
created_event_flag _ = None

-- the mutex that the call creates
abbrev pub created_mutex : Call → Option ℕ
created_mutex (Mutex call) = creation_of call
created_mutex _ = None

-- the object that the call names, by its queue
abbrev pub queue_named : Call → Option Queue
queue_named (Semaphore call) = option_map queues.Semaphore (object_of call)
queue_named (Buffer call) = option_map queues.Buffer (object_of call)
queue_named (Blackboard call) = option_map queues.Blackboard (object_of call)
queue_named (EventFlag call) = option_map queues.EventFlag (object_of call)
queue_named (Mutex call) = option_map queues.Mutex (object_of call)
queue_named _ = None

-- the call names the object of this queue
abbrev pub names : Queue → Call → Bool
names queue call = is_queue queue (queue_named call)

-- the call is WAIT_SEMAPHORE
abbrev pub is_wait : Call → Bool
is_wait (Semaphore (KindService s (Wait timeout))) = true
is_wait _ = false

-- the call is SIGNAL_SEMAPHORE
abbrev pub is_signal : Call → Bool
is_signal (Semaphore (KindService s Signal)) = true
is_signal _ = false

-- the message that the call sends, if it is SEND_BUFFER
abbrev pub sent_message : Call → Option Message
sent_message (Buffer (KindService b (Send message timeout))) = Some message
sent_message _ = None

-- the call is RECEIVE_BUFFER
abbrev pub is_receive : Call → Bool
is_receive (Buffer (KindService b (Receive timeout))) = true
is_receive _ = false

-- the message on a blackboard after the call, by the one before it
abbrev pub shown_after : Option Message → Call → Option Message
shown_after shown (Blackboard (KindService b (Display message))) = Some message
shown_after shown (Blackboard (KindService b Clear)) = None
shown_after shown _ = shown

-- whether an event flag is up after the call, by whether it was up before
abbrev pub up_after : Bool → Call → Bool
up_after up (EventFlag (KindService e Set)) = true
up_after up (EventFlag (KindService e Reset)) = false
up_after up _ = up
