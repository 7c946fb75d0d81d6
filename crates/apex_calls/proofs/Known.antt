-- The things that a call names are entries of the table, word by word.
use Rattle.std.proofs.Common.{ℕ}
use Rattle.std.specs.List.{AllByRecursion}
use Rattle.apex_machine.specs.table.Table.{Table, IsKnown}
use Rattle.apex_calls.specs.Terms.{BlackboardService, BufferService, Call, EventFlagService, MutexService, ProcessService, SemaphoreService}
use Rattle.apex_types.specs.declared.calls.BlackboardService.TheVariants.{Display, Read, Clear}
use Rattle.apex_types.specs.declared.calls.BufferService.TheVariants.{Send}
use Rattle.apex_types.specs.declared.calls.Call.TheVariants.{Partition, Process, Caller, Time, Semaphore, Buffer, Blackboard, EventFlag, Mutex, Work}
use Rattle.apex_types.specs.declared.calls.CallerCall.TheVariants.{SuspendSelf}
use Rattle.apex_types.specs.declared.calls.EventFlagService.TheVariants.{Wait as WaitFor}
use Rattle.apex_types.specs.declared.calls.MutexService.TheVariants.{Acquire, Release}
use Rattle.apex_types.specs.declared.calls.ObjectCall.TheVariants.{KindService}
use Rattle.apex_types.specs.declared.calls.PartitionCall.TheVariants.{SetPartitionMode, GetPartitionStatus}
use Rattle.apex_types.specs.declared.calls.ProcessService.TheVariants.{InitializeCoreAffinity, SetPriority, DelayedStart}
use Rattle.apex_types.specs.declared.calls.SemaphoreService.TheVariants.{Wait, Signal}
use Rattle.apex_types.specs.declared.calls.TimeCall.TheVariants.{TimedWait, Replenish}
use Rattle.apex_calls.specs.Catalogue.{row_of}
use Rattle.apex_calls.specs.Parts.{parts_of}
use Rattle.apex_calls.specs.CallText.{IsKnownWord}

-- each argument of the call that names an entry names one of the table
abbrev pub AreKnownWords : Table → Call → Type 0
AreKnownWords table call = AllByRecursion (IsKnownWord table (parts_of call).1) (row_of (parts_of call).0).shapes

module _ (table : Table) where
  process_words : (i : ℕ) (service : ProcessService) → IsKnown table (Process (KindService i service)) → AreKnownWords table (Process (KindService i service))
  process_words i (InitializeCoreAffinity core) h = (h, (tt, tt))
  process_words i (SetPriority priority) h = (h, (tt, tt))
  process_words i (DelayedStart delay) h = (h, (tt, tt))
  process_words i _ h = (h, tt)

  semaphore_words : (i : ℕ) (service : SemaphoreService) → IsKnown table (Semaphore (KindService i service)) → AreKnownWords table (Semaphore (KindService i service))
  semaphore_words i (Wait timeout) h = (h, (tt, tt))
  semaphore_words i Signal h = (h, tt)

  buffer_words : (i : ℕ) (service : BufferService) → IsKnown table (Buffer (KindService i service)) → AreKnownWords table (Buffer (KindService i service))
  buffer_words i (Send message timeout) h = (h, (tt, (tt, tt)))
  buffer_words i _ h = (h, (tt, tt))

  blackboard_words : (i : ℕ) (service : BlackboardService) → IsKnown table (Blackboard (KindService i service)) → AreKnownWords table (Blackboard (KindService i service))
  blackboard_words i (Display message) h = (h, (tt, tt))
  blackboard_words i (Read timeout) h = (h, (tt, tt))
  blackboard_words i Clear h = (h, tt)

  event_flag_words : (i : ℕ) (service : EventFlagService) → IsKnown table (EventFlag (KindService i service)) → AreKnownWords table (EventFlag (KindService i service))
  event_flag_words i (WaitFor timeout) h = (h, (tt, tt))
  event_flag_words i _ h = (h, tt)

  mutex_words : (i : ℕ) (service : MutexService) → IsKnown table (Mutex (KindService i service)) → AreKnownWords table (Mutex (KindService i service))
  mutex_words i (Acquire timeout) h = (h, (tt, tt))
  mutex_words i Release h = (h, tt)

  pub known_words : (call : Call) → IsKnown table call → AreKnownWords table call
  known_words (Process (KindService i service)) h = process_words i service h
  known_words (Semaphore (KindService i service)) h = semaphore_words i service h
  known_words (Buffer (KindService i service)) h = buffer_words i service h
  known_words (Blackboard (KindService i service)) h = blackboard_words i service h
  known_words (EventFlag (KindService i service)) h = event_flag_words i service h
  known_words (Mutex (KindService i service)) h = mutex_words i service h
  known_words (Partition (SetPartitionMode mode)) h = (tt, tt)
  known_words (Partition GetPartitionStatus) h = tt
  known_words (Caller (SuspendSelf timeout)) h = (tt, tt)
  known_words (Caller _) h = tt
  known_words (Time (TimedWait timeout)) h = (tt, tt)
  known_words (Time (Replenish budget)) h = (tt, tt)
  known_words (Time _) h = tt
  known_words (Work amount) h = (tt, tt)
  known_words _ h = (h, tt)
