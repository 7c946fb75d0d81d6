use Rattle.std.proofs.Common.{◌≡◌, ℕ, ◌<◌, false}
use Rattle.apex_names.specs.Processes.{has_name}
use Rattle.apex_machine.specs.table.Table.{process_config}
use Rattle.apex_names.proofs.processes.process_named.Given as goal

-- no process so far has the name
abbrev pub invariant-loop-place : goal.invariant-loop-place
invariant-loop-place l = (k : ℕ) → k < l.place → has_name l.name (process_config l.table k) ≡ false
