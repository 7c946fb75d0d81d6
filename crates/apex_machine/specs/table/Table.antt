-- A partition table as every contract sees it, and the facts about each accepted one.
use Rattle.std.specs.Prelude.{◌≡◌, ℕ, ◌<◌, ◌≤◌, Bool, true, false, List, [], length, slice_index_or, slice_get, map, Option, None, Some, option_map, IsTrue}
use Rattle.apex_types.specs.declared.limits.TheConstants.{MOST_CORES, MOST_ENTRIES, MOST_INIT_STEPS, MOST_MESSAGE, MOST_MESSAGES, MOST_OBJECTS, MOST_PRIORITY, MOST_SPAN, MOST_STEPS, MOST_VALUE, MOST_WORK}
use Rattle.std.specs.List.{IsDistinct}
use Rattle.std.specs.Str.{bytes_eq}
use Rattle.apex_machine.specs.Terms.{Attributes, Call, Discipline, Message, Named, ObjectCall, Origin, Profile, Timeout}
use Rattle.apex_types.specs.declared.calls.BlackboardService.TheVariants.{Read}
use Rattle.apex_types.specs.declared.calls.BufferService.TheVariants.{Send, Receive}
use Rattle.apex_types.specs.declared.calls.Call.TheVariants.{Partition, Process, Caller, Time, Semaphore, Buffer, Blackboard, EventFlag, Mutex, Work}
use Rattle.apex_types.specs.declared.calls.CallerCall.TheVariants.{StopSelf, SuspendSelf}
use Rattle.apex_types.specs.declared.calls.EventFlagService.TheVariants as event_flag
use Rattle.apex_types.specs.declared.calls.MutexService.TheVariants.{Acquire}
use Rattle.apex_types.specs.declared.calls.Named.TheVariants.{Known, Unknown}
use Rattle.apex_types.specs.declared.calls.ObjectCall.TheVariants.{Create, GetId, GetStatus, KindService}
use Rattle.apex_types.specs.declared.calls.Origin.TheVariants.{Init, Script}
use Rattle.apex_types.specs.declared.calls.ProcessService.TheVariants.{InitializeCoreAffinity, SetPriority, DelayedStart}
use Rattle.apex_types.specs.declared.calls.SemaphoreService.TheVariants as semaphore
use Rattle.apex_types.specs.declared.calls.TimeCall.TheVariants.{TimedWait, Replenish}
use Rattle.apex_types.specs.declared.calls.Timeout.TheVariants.{Ticks}
use Rattle.apex_types.specs.declared.modes.DeadlineType.TheVariants.{Soft}
use Rattle.apex_types.specs.declared.modes.Discipline.TheVariants.{Fifo}
use Rattle.apex_machine.specs.services.Calls.{origin_of, message_in}
use Rattle.apex_types.specs.Name.{is_name}
use Rattle.apex_machine.specs.table.Profiles.{processes_of}

-- a step as the table gives it; its call names the literal by the step's origin
pub record Step : Type 0 where
  pub call : Call
  pub literal : List ℕ

-- a process as the table gives it
pub record ProcessConfig : Type 0 where
  pub name : List ℕ
  pub attributes : Attributes
  pub core : ℕ
  pub loops : Bool
  pub start : Bool
  pub script : List Step

-- a semaphore as the table gives it
pub record SemaphoreConfig : Type 0 where
  pub name : List ℕ
  pub maximum : ℕ
  pub initial : ℕ
  pub discipline : Discipline

-- a buffer as the table gives it: the most bytes of a message, and the most messages
pub record BufferConfig : Type 0 where
  pub name : List ℕ
  pub length : ℕ
  pub capacity : ℕ
  pub discipline : Discipline

-- a blackboard as the table gives it: the most bytes of a message
pub record BlackboardConfig : Type 0 where
  pub name : List ℕ
  pub length : ℕ

-- an event flag as the table gives it
pub record EventFlagConfig : Type 0 where
  pub name : List ℕ

-- a mutex as the table gives it: the priority to which it raises its owner
pub record MutexConfig : Type 0 where
  pub name : List ℕ
  pub ceiling : ℕ
  pub discipline : Discipline

-- a partition table; the limit is the most entries that its history may have
pub record Table : Type 0 where
  pub profile : Profile
  pub cores : ℕ
  pub limit : ℕ
  pub processes : List ProcessConfig
  pub semaphores : List SemaphoreConfig
  pub buffers : List BufferConfig
  pub blackboards : List BlackboardConfig
  pub event_flags : List EventFlagConfig
  pub mutexes : List MutexConfig
  pub init : List Step

-- attributes and entries that no table has, for a place past the end
abbrev pub no_attributes : Attributes
no_attributes = record { priority = 0; period = None; capacity = None; deadline = Soft }

abbrev pub no_process : ProcessConfig
no_process =
    record {
      name = [];
      attributes = no_attributes;
      core = 0;
      loops = false;
      start = false;
      script = [];
    }

abbrev pub no_semaphore : SemaphoreConfig
no_semaphore = record { name = []; maximum = 0; initial = 0; discipline = Fifo }

abbrev pub no_buffer : BufferConfig
no_buffer = record { name = []; length = 0; capacity = 0; discipline = Fifo }

abbrev pub no_blackboard : BlackboardConfig
no_blackboard = record { name = []; length = 0 }

abbrev pub no_event_flag : EventFlagConfig
no_event_flag = record { name = [] }

abbrev pub no_mutex : MutexConfig
no_mutex = record { name = []; ceiling = 0; discipline = Fifo }

-- the entry at a place, counted from 0
abbrev pub process_config : Table → ℕ → ProcessConfig
process_config table p = slice_index_or table.processes p no_process

abbrev pub semaphore_config : Table → ℕ → SemaphoreConfig
semaphore_config table s = slice_index_or table.semaphores s no_semaphore

abbrev pub buffer_config : Table → ℕ → BufferConfig
buffer_config table b = slice_index_or table.buffers b no_buffer

abbrev pub blackboard_config : Table → ℕ → BlackboardConfig
blackboard_config table b = slice_index_or table.blackboards b no_blackboard

abbrev pub event_flag_config : Table → ℕ → EventFlagConfig
event_flag_config table e = slice_index_or table.event_flags e no_event_flag

abbrev pub mutex_config : Table → ℕ → MutexConfig
mutex_config table m = slice_index_or table.mutexes m no_mutex

-- the step past the end of every script: STOP_SELF
abbrev pub no_step : Step
no_step = record { call = Caller StopSelf; literal = [] }

-- the step at a place of a script or of an init list, counted from 0
abbrev pub step_at : List Step → ℕ → Step
step_at steps k = slice_index_or steps k no_step

-- the call of the step at a place, if there is such a step
abbrev pub call_in : List Step → ℕ → Option Call
call_in steps k = option_map (λ (s : Step). s.call) (slice_get steps k)

-- the literal of the step of this origin; empty if there is no such step
abbrev pub literal_text : Table → Origin → List ℕ
literal_text table (Init k) = (step_at table.init k).literal
literal_text table (Script p k) = (step_at (process_config table p).script k).literal

-- the bytes of a message
abbrev pub message_bytes : Table → Message → List ℕ
message_bytes table message = literal_text table message.origin

-- if the name is an entry's, the entry's place is below `many`
abbrev pub IsKnownName : ℕ → Named ℕ → Type 0
IsKnownName many (Known i) = i < many
IsKnownName many (Unknown origin) = Unit {0}

-- if the call names an entry's thing, its place is below `many`
abbrev pub IsKnownObject : {W : Type 0} → ℕ → ObjectCall ℕ W → Type 0
IsKnownObject many (Create named) = IsKnownName many named
IsKnownObject many (GetId named) = IsKnownName many named
IsKnownObject many (GetStatus i) = i < many
IsKnownObject many (KindService i service) = i < many

-- if the call names an entry's thing, the table has that entry
abbrev pub IsKnown : Table → Call → Type 0
IsKnown table (Partition call) = Unit {0}
IsKnown table (Process call) = IsKnownObject (length table.processes) call
IsKnown table (Caller call) = Unit {0}
IsKnown table (Time call) = Unit {0}
IsKnown table (Semaphore call) = IsKnownObject (length table.semaphores) call
IsKnown table (Buffer call) = IsKnownObject (length table.buffers) call
IsKnown table (Blackboard call) = IsKnownObject (length table.blackboards) call
IsKnown table (EventFlag call) = IsKnownObject (length table.event_flags) call
IsKnown table (Mutex call) = IsKnownObject (length table.mutexes) call
IsKnown table (Work amount) = Unit {0}

-- the message is that of the step of this origin, which has this literal
pub record IsMessageOf (origin : Origin) (literal : List ℕ) (message : Message) : Type 0 where
  pub given : message.origin ≡ origin
  pub many : message.length ≡ length literal
  pub few : message.length ≤ MOST_MESSAGE

-- the literal of the step of this origin is the one of its call: a name that no entry has, a
-- message, or nothing
abbrev pub IsLiteral : Origin → List ℕ → Option Origin → Option Message → Type 0
IsLiteral origin literal None None = literal ≡ []
IsLiteral origin literal None (Some message) = IsMessageOf origin literal message
IsLiteral origin literal (Some named) message = (named ≡ origin) × IsTrue (is_name literal)

-- a timeout that is a number of ticks is 1 to 4,294,967,295 of them
abbrev pub IsLawfulTimeout : Timeout → Type 0
IsLawfulTimeout (Ticks ticks) = (1 ≤ ticks) × (ticks ≤ MOST_SPAN)
IsLawfulTimeout _ = Unit {0}

-- the numbers that a call gives are in their ranges: the core is at most 255 and the priority at most
-- 65,535, since the services test the rest; the timeout is lawful; a deadline lies 1 to 4,294,967,295
-- ticks from now; and work has 1 to 1,048,576 units
abbrev pub HasNumbersInRange : Call → Type 0
HasNumbersInRange (Process (KindService p (InitializeCoreAffinity core))) = core ≤ 255
HasNumbersInRange (Process (KindService p (SetPriority priority))) = priority ≤ 65535
HasNumbersInRange (Process (KindService p (DelayedStart delay))) = IsLawfulTimeout delay
HasNumbersInRange (Caller (SuspendSelf timeout)) = IsLawfulTimeout timeout
HasNumbersInRange (Time (TimedWait timeout)) = IsLawfulTimeout timeout
HasNumbersInRange (Time (Replenish span)) = (1 ≤ span) × (span ≤ MOST_SPAN)
HasNumbersInRange (Semaphore (KindService s (semaphore.Wait timeout))) = IsLawfulTimeout timeout
HasNumbersInRange (Buffer (KindService b (Send message timeout))) = IsLawfulTimeout timeout
HasNumbersInRange (Buffer (KindService b (Receive timeout))) = IsLawfulTimeout timeout
HasNumbersInRange (Blackboard (KindService b (Read timeout))) = IsLawfulTimeout timeout
HasNumbersInRange (EventFlag (KindService e (event_flag.Wait timeout))) = IsLawfulTimeout timeout
HasNumbersInRange (Mutex (KindService m (Acquire timeout))) = IsLawfulTimeout timeout
HasNumbersInRange (Work amount) = (1 ≤ amount) × (amount ≤ MOST_WORK)
HasNumbersInRange _ = Unit {0}

-- the facts about the step of this origin of an accepted table
pub record IsLawfulStep (table : Table) (origin : Origin) (step : Step) : Type 0 where
  pub known : IsKnown table step.call
  pub numbers : HasNumbersInRange step.call
  pub literal : IsLiteral origin step.literal (origin_of step.call) (message_in step.call)

-- a span of time, if it is finite, is 1 to 4,294,967,295 ticks
abbrev pub IsSpan : Option ℕ → Type 0
IsSpan span = (ticks : ℕ) → span ≡ Some ticks → (1 ≤ ticks) × (ticks ≤ MOST_SPAN)

-- the facts about the process at place p of an accepted table
pub record IsLawfulProcess (table : Table) (p : ℕ) (entry : ProcessConfig) : Type 0 where
  pub name : IsTrue (is_name entry.name)
  pub priority : (1 ≤ entry.attributes.priority) × (entry.attributes.priority ≤ MOST_PRIORITY)
  pub core : entry.core < table.cores
  pub period : IsSpan entry.attributes.period
  pub capacity : IsSpan entry.attributes.capacity
  pub steps : length entry.script ≤ MOST_STEPS
  pub looping : entry.loops ≡ true → 1 ≤ length entry.script
  pub script : (k : ℕ) → k < length entry.script
      → IsLawfulStep table (Script p k) (step_at entry.script k)

-- the facts about a semaphore of an accepted table
pub record IsLawfulSemaphore (entry : SemaphoreConfig) : Type 0 where
  pub name : IsTrue (is_name entry.name)
  pub maximum : (1 ≤ entry.maximum) × (entry.maximum ≤ MOST_VALUE)
  pub initial : entry.initial ≤ entry.maximum

-- the facts about a buffer of an accepted table
pub record IsLawfulBuffer (entry : BufferConfig) : Type 0 where
  pub name : IsTrue (is_name entry.name)
  pub length : (1 ≤ entry.length) × (entry.length ≤ MOST_MESSAGE)
  pub capacity : (1 ≤ entry.capacity) × (entry.capacity ≤ MOST_MESSAGES)

-- the facts about a blackboard of an accepted table
pub record IsLawfulBlackboard (entry : BlackboardConfig) : Type 0 where
  pub name : IsTrue (is_name entry.name)
  pub length : (1 ≤ entry.length) × (entry.length ≤ MOST_MESSAGE)

-- the facts about an event flag of an accepted table
pub record IsLawfulEventFlag (entry : EventFlagConfig) : Type 0 where
  pub name : IsTrue (is_name entry.name)

-- the facts about a mutex of an accepted table
pub record IsLawfulMutex (entry : MutexConfig) : Type 0 where
  pub name : IsTrue (is_name entry.name)
  pub ceiling : (1 ≤ entry.ceiling) × (entry.ceiling ≤ MOST_PRIORITY)

-- the facts about an accepted table: ranges, references and distinct names
pub record IsLawful (table : Table) : Type 0 where
  pub cores : (1 ≤ table.cores) × (table.cores ≤ MOST_CORES)
  pub limit : (1 ≤ table.limit) × (table.limit ≤ MOST_ENTRIES)
  pub process_count : (1 ≤ length table.processes)
      × (length table.processes ≤ processes_of table.profile)
  pub semaphore_count : length table.semaphores ≤ MOST_OBJECTS
  pub buffer_count : length table.buffers ≤ MOST_OBJECTS
  pub blackboard_count : length table.blackboards ≤ MOST_OBJECTS
  pub event_flag_count : length table.event_flags ≤ MOST_OBJECTS
  pub mutex_count : length table.mutexes ≤ MOST_OBJECTS
  pub init_count : length table.init ≤ MOST_INIT_STEPS
  pub processes : (p : ℕ) → p < length table.processes
      → IsLawfulProcess table p (process_config table p)
  pub semaphores : (s : ℕ) → s < length table.semaphores
      → IsLawfulSemaphore (semaphore_config table s)
  pub buffers : (b : ℕ) → b < length table.buffers → IsLawfulBuffer (buffer_config table b)
  pub blackboards : (b : ℕ) → b < length table.blackboards
      → IsLawfulBlackboard (blackboard_config table b)
  pub event_flags : (e : ℕ) → e < length table.event_flags
      → IsLawfulEventFlag (event_flag_config table e)
  pub mutexes : (m : ℕ) → m < length table.mutexes → IsLawfulMutex (mutex_config table m)
  pub init : (k : ℕ) → k < length table.init → IsLawfulStep table (Init k) (step_at table.init k)
  pub process_names : IsDistinct bytes_eq (map (λ (e : ProcessConfig). e.name) table.processes)
  pub semaphore_names : IsDistinct bytes_eq (map (λ (e : SemaphoreConfig). e.name) table.semaphores)
  pub buffer_names : IsDistinct bytes_eq (map (λ (e : BufferConfig). e.name) table.buffers)
  pub blackboard_names : IsDistinct bytes_eq
      (map (λ (e : BlackboardConfig). e.name) table.blackboards)
  pub event_flag_names : IsDistinct bytes_eq
      (map (λ (e : EventFlagConfig). e.name) table.event_flags)
  pub mutex_names : IsDistinct bytes_eq (map (λ (e : MutexConfig). e.name) table.mutexes)
