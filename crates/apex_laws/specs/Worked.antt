-- Worked histories: small tables and events, and the lines that the definitions give for them.
use Rattle.std.specs.Prelude.{◌≡◌, ℕ, true, false, None, Some, List, [], ◌∷◌, codes, flat_map, map, replicate, ◌++◌}
use Rattle.apex_laws.specs.Terms.{Attributes, Call, Event}
use Rattle.apex_machine.specs.declared.profiles.Profile.TheVariants.{One}
use Rattle.apex_types.specs.declared.limits.TheConstants.{USUAL_ENTRIES}
use Rattle.apex_types.specs.declared.calls.Call.TheVariants.{Partition, Process, Time, Semaphore, Work}
use Rattle.apex_types.specs.declared.modes.DeadlineType.TheVariants.{Soft}
use Rattle.apex_types.specs.declared.modes.Discipline.TheVariants.{Fifo}
use Rattle.apex_types.specs.declared.calls.Named.TheVariants.{Known}
use Rattle.apex_types.specs.declared.calls.ObjectCall.TheVariants.{Create, KindService}
use Rattle.apex_types.specs.declared.calls.PartitionCall.TheVariants.{SetPartitionMode}
use Rattle.apex_types.specs.declared.calls.RequestedMode.TheVariants.{Normal}
use Rattle.apex_types.specs.declared.calls.ProcessService.TheVariants.{InitializeCoreAffinity, Start, Stop}
use Rattle.apex_types.specs.declared.calls.SemaphoreService.TheVariants.{Wait, Signal}
use Rattle.apex_types.specs.declared.calls.TimeCall.TheVariants.{PeriodicWait, GetTime}
use Rattle.apex_types.specs.declared.calls.Timeout.TheVariants.{Infinite}
use Rattle.apex_types.specs.declared.entries.Event.TheVariants.{Turn, Tick}
use Rattle.apex_machine.specs.table.Table.{Table, ProcessConfig, Step}
use Rattle.apex_machine.specs.Machine.{run, opening}
use Rattle.apex_calls.specs.Lines.{lines_of}

-- the step of a call that names no literal
abbrev pub bare : Call → Step
bare call = record { call = call; literal = [] }

-- the steps of calls that name no literal
abbrev pub bares : List Call → List Step
bares = map bare

-- the attributes of an aperiodic process of this priority, which has no deadline
abbrev pub aperiodic : ℕ → Attributes
aperiodic priority = record { priority = priority; period = None; capacity = None; deadline = Soft }

-- a process that the init list starts, with a script that ends
abbrev pub starts : List ℕ → ℕ → ℕ → List Call → ProcessConfig
starts name priority core script =
    record {
      name = name;
      attributes = aperiodic priority;
      core = core;
      loops = false;
      start = true;
      script = bares script;
    }

-- a waiter on core 0 and a signaller on core 1, with one semaphore of value 0
abbrev pub waiter_and_signaller : Table
waiter_and_signaller = record {
  profile = One;
  cores = 2;
  limit = USUAL_ENTRIES;
  processes =
      starts (codes "P1") 10 0 (Semaphore (KindService 0 (Wait Infinite)) ∷ [])
      ∷ starts (codes "P2") 10 1 (Semaphore (KindService 0 Signal) ∷ []) ∷ [];
  semaphores = (record { name = codes "S"; maximum = 1; initial = 0; discipline = Fifo }) ∷ [];
  buffers = [];
  blackboards = [];
  event_flags = [];
  mutexes = [];
  init = bares (
      Semaphore (Create (Known 0))
      ∷ Process (Create (Known 0)) ∷ Process (KindService 0 (InitializeCoreAffinity 0))
      ∷ Process (Create (Known 1)) ∷ Process (KindService 1 (InitializeCoreAffinity 1))
      ∷ Process (KindService 0 Start) ∷ Process (KindService 1 Start)
      ∷ Partition (SetPartitionMode Normal) ∷ []);
}

-- a process with an empty script
abbrev pub empty_script : Table
empty_script = record {
  profile = One;
  cores = 1;
  limit = USUAL_ENTRIES;
  processes = starts (codes "P") 10 0 [] ∷ [];
  semaphores = [];
  buffers = [];
  blackboards = [];
  event_flags = [];
  mutexes = [];
  init = bares (
      Process (Create (Known 0)) ∷ Process (KindService 0 (InitializeCoreAffinity 0))
      ∷ Process (KindService 0 Start)
      ∷ Partition (SetPartitionMode Normal) ∷ []);
}

-- lines, each with its line feed
abbrev pub text : List (List ℕ) → List ℕ
text = flat_map (λ line. line ++ codes "\n")

-- the lines of the history that these events make
abbrev pub history_lines : Table → List Event → List ℕ
history_lines table events = lines_of table (run table (opening table) events).history

-- the lines of the init list of the waiter and the signaller
abbrev pub init_lines : List ℕ
init_lines = text (
    codes "1 0 core0 init CREATE_SEMAPHORE S -> NO_ERROR"
    ∷ codes "2 0 core0 init CREATE_PROCESS P1 -> NO_ERROR"
    ∷ codes "3 0 core0 init INITIALIZE_PROCESS_CORE_AFFINITY P1 0 -> NO_ERROR"
    ∷ codes "4 0 core0 init CREATE_PROCESS P2 -> NO_ERROR"
    ∷ codes "5 0 core0 init INITIALIZE_PROCESS_CORE_AFFINITY P2 1 -> NO_ERROR"
    ∷ codes "6 0 core0 init START P1 -> NO_ERROR"
    ∷ codes "7 0 core0 init START P2 -> NO_ERROR"
    ∷ codes "8 0 core0 init SET_PARTITION_MODE NORMAL -> NO_ERROR | released 1 | released 2" ∷ [])

-- a signal wakes the process that waits
abbrev pub SignalWakesWaiter : Type 0
SignalWakesWaiter =
    history_lines waiter_and_signaller (replicate 8 (Turn 0) ++ Turn 0 ∷ Turn 1 ∷ [])
    ≡ init_lines ++ text (
    codes "9 0 core0 1 WAIT_SEMAPHORE S infinite -> BLOCKED"
    ∷ codes "10 0 core1 2 SIGNAL_SEMAPHORE S -> NO_ERROR | woken 1 NO_ERROR" ∷ [])

-- a process of period 10 that has 4 ticks for each release
abbrev pub periodic_process : Table
periodic_process = record {
  profile = One;
  cores = 1;
  limit = USUAL_ENTRIES;
  processes = (record {
    name = codes "A";
    attributes = record { priority = 10; period = Some 10; capacity = Some 4; deadline = Soft };
    core = 0;
    loops = false;
    start = true;
    script = bares (Time PeriodicWait ∷ Time GetTime ∷ []);
  }) ∷ [];
  semaphores = [];
  buffers = [];
  blackboards = [];
  event_flags = [];
  mutexes = [];
  init = empty_script.init;
}

-- a missed deadline has its notice, and a late wait ends at the next whole period
abbrev pub MissedDeadlineThenNextRelease : Type 0
MissedDeadlineThenNextRelease =
    history_lines periodic_process
    (replicate 4 (Turn 0) ++ Tick 23 ∷ Tick 19 ∷ Turn 0 ∷ Tick 9 ∷ Turn 0 ∷ [])
    ≡ text (
    codes "1 0 core0 init CREATE_PROCESS A -> NO_ERROR"
    ∷ codes "2 0 core0 init INITIALIZE_PROCESS_CORE_AFFINITY A 0 -> NO_ERROR"
    ∷ codes "3 0 core0 init START A -> NO_ERROR"
    ∷ codes "4 0 core0 init SET_PARTITION_MODE NORMAL -> NO_ERROR | released 1"
    ∷ codes "5 4 ticker - tick 23 -> ADVANCED 4 | missed 1 soft"
    ∷ codes "6 23 ticker - tick 19 -> ADVANCED 19"
    ∷ codes "7 23 core0 1 PERIODIC_WAIT -> BLOCKED"
    ∷ codes "8 30 ticker - tick 9 -> ADVANCED 7 | released 1"
    ∷ codes "9 30 core0 1 GET_TIME -> VALUE 30" ∷ [])

-- a worker, a more urgent process that waits, and on core 1 one that wakes it and stops it
abbrev pub worker_and_disturber : Table
worker_and_disturber = record {
  profile = One;
  cores = 2;
  limit = USUAL_ENTRIES;
  processes =
      starts (codes "A") 10 0 (Work 3 ∷ [])
      ∷ starts (codes "H") 20 0 (Semaphore (KindService 0 (Wait Infinite)) ∷ [])
      ∷ starts (codes "K") 10 1
      (Semaphore (KindService 0 Signal) ∷ Process (KindService 1 Stop) ∷ []) ∷ [];
  semaphores = (record { name = codes "S"; maximum = 1; initial = 0; discipline = Fifo }) ∷ [];
  buffers = [];
  blackboards = [];
  event_flags = [];
  mutexes = [];
  init = bares (
      Semaphore (Create (Known 0))
      ∷ Process (Create (Known 0)) ∷ Process (Create (Known 1)) ∷ Process (Create (Known 2))
      ∷ Process (KindService 2 (InitializeCoreAffinity 1))
      ∷ Process (KindService 0 Start) ∷ Process (KindService 1 Start)
      ∷ Process (KindService 2 Start)
      ∷ Partition (SetPartitionMode Normal) ∷ []);
}

-- work is lost whose process lost the core meanwhile, and is then begun anew
abbrev pub WorkIsLostAfterAbsence : Type 0
WorkIsLostAfterAbsence =
    history_lines worker_and_disturber
    (replicate 11 (Turn 0) ++ replicate 2 (Turn 1) ++ replicate 3 (Turn 0))
    ≡ text (
    codes "1 0 core0 init CREATE_SEMAPHORE S -> NO_ERROR"
    ∷ codes "2 0 core0 init CREATE_PROCESS A -> NO_ERROR"
    ∷ codes "3 0 core0 init CREATE_PROCESS H -> NO_ERROR"
    ∷ codes "4 0 core0 init CREATE_PROCESS K -> NO_ERROR"
    ∷ codes "5 0 core0 init INITIALIZE_PROCESS_CORE_AFFINITY K 1 -> NO_ERROR"
    ∷ codes "6 0 core0 init START A -> NO_ERROR"
    ∷ codes "7 0 core0 init START H -> NO_ERROR"
    ∷ codes "8 0 core0 init START K -> NO_ERROR"
    ∷ codes "9 0 core0 init SET_PARTITION_MODE NORMAL -> NO_ERROR | released 1 | released 2 | released 3"
    ∷ codes "10 0 core0 2 WAIT_SEMAPHORE S infinite -> BLOCKED"
    ∷ codes "11 0 core0 1 work 3 -> BEGUN"
    ∷ codes "12 0 core1 3 SIGNAL_SEMAPHORE S -> NO_ERROR | woken 2 NO_ERROR"
    ∷ codes "13 0 core1 3 STOP H -> NO_ERROR"
    ∷ codes "14 0 core0 1 work 3 -> LOST"
    ∷ codes "15 0 core0 1 work 3 -> BEGUN"
    ∷ codes "16 0 core0 1 work 3 -> DONE" ∷ [])
