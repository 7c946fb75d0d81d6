-- The warnings of a table, in order: about processes, steps, objects and cores.
use Rattle.std.specs.Prelude.{ℕ, ◌+◌, zero, suc, Bool, List, [], ◌∷◌, ◌++◌, length, if◌then◌else◌}
use Rattle.apex_types.specs.declared.calls.Origin.TheVariants as origin
use Rattle.apex_warnings.specs.Calls.{init_calls, script}
use Rattle.apex_warnings.specs.Cores.{core_is_unused}
use Rattle.apex_warnings.specs.Objects.{group_count, object_is_unused}
use Rattle.apex_warnings.specs.ProcessWarnings.{process_warned}
use Rattle.apex_warnings.specs.StepWarnings.{init_step_warned, step_warned}
use Rattle.apex_warnings.specs.Terms.{Call, Group, ProcessWarning, StepWarning, Warning}
use Rattle.apex_warnings.specs.declared.objects.Group.TheVariants.{Semaphores, Buffers, Blackboards, EventFlags, Mutexes}
use Rattle.apex_warnings.specs.declared.process_warnings.ProcessWarning.TheVariants.{EmptyScript, NotStarted, CapacityAbovePeriod, NoPeriodicWait, MuchWork}
use Rattle.apex_warnings.specs.declared.step_warnings.StepWarning.TheVariants.{MessageRefused, AperiodicWait, SuspendsPeriodic, LowCeiling, NotReleased, WaitsAsOwner, NeverAnswered}
use Rattle.apex_warnings.specs.declared.warnings.Warning.TheVariants.{Process, Step, UnusedObject, UnusedCore}
use Rattle.apex_machine.specs.table.Table.{Table}

-- the warning, if it applies
abbrev pub warned : Bool → Warning → List Warning
warned applies warning = if applies then warning ∷ [] else []

-- the warnings of the first n places, one place after the other
abbrev pub each_below : (ℕ → List Warning) → ℕ → List Warning
each_below at zero = []
each_below at (suc n) = each_below at n ++ at n

-- the warnings of a list of calls, of which the first one is at place k
abbrev pub each_call : (ℕ → Call → List Warning) → ℕ → List Call → List Warning
each_call at k [] = []
each_call at k (call ∷ calls) = at k call ++ each_call at (k + 1) calls

-- those of a kind about processes
abbrev pub processes_warned : Table → ProcessWarning → List Warning
processes_warned table kind =
    each_below (λ p. warned (process_warned kind table p) (Process kind p))
    (length table.processes)

-- those of a kind about steps of the init list
abbrev pub init_warned : Table → StepWarning → List Warning
init_warned table kind =
    each_call (λ k call. warned (init_step_warned kind table call) (Step kind (origin.Init k))) 0
    (init_calls table)

-- those of a kind about steps of the script of process p
abbrev pub script_warned : Table → StepWarning → ℕ → List Warning
script_warned table kind p =
    each_call (λ k call. warned (step_warned kind table p k call)
    (Step kind (origin.Script p k))) 0 (script table p)

-- those of a kind about steps
abbrev pub steps_warned : Table → StepWarning → List Warning
steps_warned table kind =
    init_warned table kind ++ each_below (script_warned table kind) (length table.processes)

-- those about objects of a kind
abbrev pub objects_warned : Table → Group → List Warning
objects_warned table group =
    each_below (λ i. warned (object_is_unused table group i) (UnusedObject group i))
    (group_count table group)

-- those about cores
abbrev pub cores_warned : Table → List Warning
cores_warned table =
    each_below (λ core. warned (core_is_unused table core) (UnusedCore core)) table.cores

-- all about processes
abbrev pub about_processes : Table → List Warning
about_processes table =
    processes_warned table EmptyScript
    ++ processes_warned table NotStarted
    ++ processes_warned table CapacityAbovePeriod
    ++ processes_warned table NoPeriodicWait
    ++ processes_warned table MuchWork

-- all about steps
abbrev pub about_steps : Table → List Warning
about_steps table =
    steps_warned table MessageRefused
    ++ steps_warned table AperiodicWait
    ++ steps_warned table SuspendsPeriodic
    ++ steps_warned table LowCeiling
    ++ steps_warned table NotReleased
    ++ steps_warned table WaitsAsOwner
    ++ steps_warned table NeverAnswered

-- all about objects
abbrev pub about_objects : Table → List Warning
about_objects table =
    objects_warned table Semaphores
    ++ objects_warned table Buffers
    ++ objects_warned table Blackboards
    ++ objects_warned table EventFlags
    ++ objects_warned table Mutexes

-- all of them
abbrev pub warnings : Table → List Warning
warnings table =
    about_processes table ++ about_steps table ++ about_objects table ++ cores_warned table
