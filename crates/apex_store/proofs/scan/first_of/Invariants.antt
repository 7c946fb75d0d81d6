use Rattle.std.proofs.Common.{◌<◌, ◌≤◌, Some, length}
use Rattle.apex_machine.proofs.Choice.{IsFound}
use Rattle.apex_store.proofs.scan.first_of.Given as goal

abbrev pub invariant-loop-place : goal.invariant-loop-place
invariant-loop-place g l = record {
  stands : IsFound (g.O.Order.passes l.order) (g.O.Order.precedes l.order) l.records l.place (Some l.first);
  within : l.first < l.place;
  reach : l.place ≤ length l.records;
}
