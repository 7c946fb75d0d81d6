-- The warnings about a process.
use Rattle.std.specs.Prelude.{ℕ, Bool, length, ◌==◌, ◌&&◌, not, is_some}
use Rattle.std.specs.List.{list_any}
use Rattle.apex_warnings.specs.Acts.{does}
use Rattle.apex_warnings.specs.Calls.{any_step_outside, script}
use Rattle.apex_warnings.specs.Jobs.{has_much_work, is_above}
use Rattle.apex_warnings.specs.Terms.{ProcessWarning}
use Rattle.apex_warnings.specs.declared.acts.Act.TheVariants as act
use Rattle.apex_warnings.specs.declared.process_warnings.ProcessWarning.TheVariants.{EmptyScript, NotStarted, CapacityAbovePeriod, NoPeriodicWait, MuchWork}
use Rattle.apex_machine.specs.table.Table.{Table, process_config}

-- its script is empty, so its first step is STOP_SELF
abbrev pub has_empty_script : Table → ℕ → Bool
has_empty_script table p = length (script table p) == 0

-- no step of the init list or of another process's script starts it with a delay that it may have, so
-- it stays dormant, and its own script never runs; the default init list starts those whose key
-- `start` is true
abbrev pub is_not_started : Table → ℕ → Bool
is_not_started table p =
    let period = (process_config table p).attributes.period in
    not (any_step_outside p (does (act.Start p period)) table)

-- its time capacity is longer than its period, so a job can miss a release before its deadline
abbrev pub has_long_capacity : Table → ℕ → Bool
has_long_capacity table p =
    let attributes = (process_config table p).attributes in
    is_above attributes.capacity attributes.period

-- it is periodic and its script loops without PERIODIC_WAIT, so only a start releases it
abbrev pub lacks_periodic_wait : Table → ℕ → Bool
lacks_periodic_wait table p =
    is_some (process_config table p).attributes.period && (process_config table p).loops
    && not (list_any (does act.WaitForPeriod) (script table p))

-- the warning is about process p
abbrev pub process_warned : ProcessWarning → Table → ℕ → Bool
process_warned EmptyScript table p = has_empty_script table p
process_warned NotStarted table p = is_not_started table p
process_warned CapacityAbovePeriod table p = has_long_capacity table p
process_warned NoPeriodicWait table p = lacks_periodic_wait table p
process_warned MuchWork table p =
    has_much_work (process_config table p).attributes (script table p)
