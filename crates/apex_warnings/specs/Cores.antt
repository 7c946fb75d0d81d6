-- The cores to which the init list binds processes.
use Rattle.std.specs.Prelude.{ℕ, zero, suc, Bool, false, length, ◌==◌, ◌&&◌, ◌||◌, not}
use Rattle.std.specs.List.{list_any}
use Rattle.apex_warnings.specs.Acts.{does}
use Rattle.apex_warnings.specs.declared.acts.Act.TheVariants as act
use Rattle.apex_warnings.specs.Calls.{init_calls}
use Rattle.apex_machine.specs.table.Table.{Table}

-- no step of the init list binds process p to a core other than core 0, so it stays there
abbrev pub process_stays : Table → ℕ → Bool
process_stays table p = not (list_any (does (act.BindAway p table.cores)) (init_calls table))

-- one of the first n places passes
abbrev pub any_below : (ℕ → Bool) → ℕ → Bool
any_below passes zero = false
any_below passes (suc n) = any_below passes n || passes n

abbrev pub some_process_stays : Table → Bool
some_process_stays table = any_below (process_stays table) (length table.processes)

-- the init list binds no process to the core: it does not name the core, and if it is core 0, it
-- binds each process to another one
abbrev pub core_is_unused : Table → ℕ → Bool
core_is_unused table core =
    not (list_any (does (act.BindTo core)) (init_calls table))
    && not (core == 0 && some_process_stays table)
