-- What the signals of a dump show.
use Rattle.std.specs.Prelude.{Bool, true, false, ◌==◌}
use Rattle.apex_machine.specs.processes.Owners.{owner}
use Rattle.apex_machine.specs.processes.Running.{chosen, process_state}
use Rattle.apex_moments.specs.Counts.{content_of, displayed_on, raised_of, value_of}
use Rattle.apex_moments.specs.Moments.{same_process}
use Rattle.apex_types.specs.declared.modes.State.{State}
use Rattle.apex_types.specs.declared.modes.State.TheVariants.{Dormant, Ready, Running, Waiting}
use Rattle.apex_waves.specs.Snapshots.{Snapshot}
use Rattle.apex_waves.specs.declared.levels.Level.{Level}
use Rattle.apex_waves.specs.declared.levels.Level.TheVariants as levels
use Rattle.apex_waves.specs.declared.signals.Signal.{Signal}
use Rattle.apex_waves.specs.declared.signals.Signal.TheVariants.{Core, Process, Semaphore, Buffer, Blackboard, EventFlag, Mutex}

-- What a signal shows: that of a core the process that it runs, of a process its state, of a semaphore its
-- value, of a buffer and of a blackboard the number of messages, of an event flag whether it is up, and of a
-- mutex its owner.
abbrev pub level_of : Snapshot → Signal → Level
level_of moment (Core core) = levels.Process (chosen moment.roster core)
level_of moment (Process p) = levels.State (process_state moment.roster p)
level_of moment (Semaphore s) = levels.Count (value_of moment.objects s)
level_of moment (Buffer b) = levels.Count (content_of moment.objects b)
level_of moment (Blackboard b) = levels.Count (displayed_on moment.objects b)
level_of moment (EventFlag e) = levels.Count (raised_of moment.objects e)
level_of moment (Mutex m) = levels.Process (owner moment.roster m)

-- two states are the same
abbrev pub same_state : State → State → Bool
same_state Dormant Dormant = true
same_state Ready Ready = true
same_state Running Running = true
same_state Waiting Waiting = true
same_state state other = false

-- two levels are the same
abbrev pub same_level : Level → Level → Bool
same_level (levels.State s) (levels.State t) = same_state s t
same_level (levels.Process p) (levels.Process q) = same_process p q
same_level (levels.Count m) (levels.Count n) = m == n
same_level level other = false
