use Rattle.std.proofs.Common.{◌≡◌, ◌≤◌, length, ◌+◌}
use Rattle.apex_types.specs.declared.limits.TheConstants.{MOST_PROCESSES}
use Rattle.apex_machine.specs.services.InTurn.{behind}
use Rattle.apex_machine.specs.services.PartitionServices.{first_to_start, begin_waiter, enter_normal}
use Rattle.apex_machine.proofs.Reaches.{Reaches}
use Rattle.apex_laws.proofs.Begun.{IsBegun}
use Rattle.apex_machine.proofs.Loops.{LeadsTo}
use Rattle.apex_services.proofs.services.partition.enter_normal.Given as goal

abbrev pub invariant-loop-round : goal.invariant-loop-round
invariant-loop-round g l = record {
  rest : LeadsTo first_to_start begin_waiter
      (behind l.fn.notices (enter_normal (g.S.Store.roster l.fn.store))) l.round l.round-end (g.S.Store.roster l.store) l.notices;
  reaches : Reaches l.round (g.S.Store.roster l.fn.store) (g.S.Store.roster l.store);
  begun : IsBegun (g.S.Store.roster l.store);
  end : l.round-end ≡ length (g.S.Store.roster l.fn.store).records;
  few : l.round-end ≤ MOST_PROCESSES;
  room : length l.notices ≤ MOST_PROCESSES + l.round;
}
