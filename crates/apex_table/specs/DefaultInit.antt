-- The init list of a table that gives none.
use Rattle.std.specs.Prelude.{ℕ, if◌then◌else◌, List, [], ◌∷◌, ◌++◌}
use Rattle.std.specs.List.{flat_map}
use Rattle.apex_types.specs.Places.{map_places}
use Rattle.apex_machine.specs.table.Table.{ProcessConfig, Step}
use Rattle.apex_calls.specs.declared.catalogue.Kind.TheVariants as kinds
use Rattle.apex_table.specs.Terms.{Call, Kind}
use Rattle.apex_configs.specs.Objects.{Objects}
use Rattle.apex_types.specs.declared.calls.Call.TheVariants.{Partition, Process, Semaphore, Buffer, Blackboard, EventFlag, Mutex}
use Rattle.apex_types.specs.declared.calls.RequestedMode.TheVariants.{Normal}
use Rattle.apex_types.specs.declared.calls.PartitionCall.TheVariants.{SetPartitionMode}
use Rattle.apex_types.specs.declared.calls.Named.TheVariants.{Known}
use Rattle.apex_types.specs.declared.calls.ObjectCall.TheVariants.{Create, KindService}
use Rattle.apex_types.specs.declared.calls.ProcessService.TheVariants.{InitializeCoreAffinity, Start}

-- the step of a call that names no literal
abbrev pub bare : Call → Step
bare call = record { call = call; literal = [] }

-- the CREATE of the thing of a kind at place i
abbrev pub create : Kind → ℕ → Call
create kinds.Process i = Process (Create (Known i))
create kinds.Semaphore i = Semaphore (Create (Known i))
create kinds.Buffer i = Buffer (Create (Known i))
create kinds.Blackboard i = Blackboard (Create (Known i))
create kinds.EventFlag i = EventFlag (Create (Known i))
create kinds.Mutex i = Mutex (Create (Known i))

-- for the thing of a kind at place i its CREATE
abbrev pub creates : {E : Type 0} → Kind → ℕ → E → Step
creates kind i entry = bare (create kind i)

-- for the process at place p its CREATE_PROCESS and its INITIALIZE_PROCESS_CORE_AFFINITY
abbrev pub creates_process : ℕ → ProcessConfig → List Step
creates_process p entry =
    creates kinds.Process p entry
    ∷ bare (Process (KindService p (InitializeCoreAffinity entry.core))) ∷ []

-- for the process at place p, if it starts, its START
abbrev pub starts_process : ℕ → ProcessConfig → List Step
starts_process p entry = if entry.start then bare (Process (KindService p Start)) ∷ [] else []

-- the steps of one element after the other
abbrev pub joined : List (List Step) → List Step
joined steps = flat_map (λ ss. ss) steps

-- for every object its CREATE, kind by kind
unfoldable pub creates_objects : Objects → List Step
creates_objects objects =
    map_places (creates kinds.Semaphore) 0 objects.semaphores
    ++ map_places (creates kinds.Buffer) 0 objects.buffers
    ++ map_places (creates kinds.Blackboard) 0 objects.blackboards
    ++ map_places (creates kinds.EventFlag) 0 objects.event_flags
    ++ map_places (creates kinds.Mutex) 0 objects.mutexes

-- the default init list: it creates everything, starts the processes that are to start, and enters
-- NORMAL
abbrev pub default_init : List ProcessConfig → Objects → List Step
default_init processes objects =
    creates_objects objects
    ++ joined (map_places creates_process 0 processes)
    ++ joined (map_places starts_process 0 processes)
    ++ bare (Partition (SetPartitionMode Normal)) ∷ []
