use Rattle.std.proofs.Common.{◌≡◌, drop}
use Rattle.apex_machine.specs.processes.Dues.{earliest}
use Rattle.apex_store.proofs.dues.earliest.Given as goal

abbrev pub invariant-loop-place : goal.invariant-loop-place
invariant-loop-place l = l.earliest ≡ earliest (drop l.place l.records)
