-- The calls of a table's steps.
use Rattle.std.specs.Prelude.{ℕ, ◌+◌, Bool, List, drop, map, take, ◌||◌}
use Rattle.std.specs.List.{list_any}
use Rattle.apex_warnings.specs.Terms.{Call}
use Rattle.apex_machine.specs.table.Table.{ProcessConfig, Step, Table, process_config}

-- the calls of a list of steps
abbrev pub calls_of : List Step → List Call
calls_of steps = map (λ (s : Step). s.call) steps

-- the calls of the init list
abbrev pub init_calls : Table → List Call
init_calls table = calls_of table.init

-- the calls of the script of process p
abbrev pub script : Table → ℕ → List Call
script table p = calls_of (process_config table p).script

-- those of each script, in the order of the processes
abbrev pub scripts : Table → List (List Call)
scripts table = map (λ (e : ProcessConfig). calls_of e.script) table.processes

-- a step of the init list or of a script passes
abbrev pub any_step : (Call → Bool) → Table → Bool
any_step passes table =
    list_any passes (init_calls table) || list_any (list_any passes) (scripts table)

-- a step of the init list passes, or one of a script before or after that of process p
abbrev pub any_step_outside : ℕ → (Call → Bool) → Table → Bool
any_step_outside p passes table =
    list_any passes (init_calls table)
    || list_any (list_any passes) (take p (scripts table))
    || list_any (list_any passes) (drop (p + 1) (scripts table))
