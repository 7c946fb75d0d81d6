use Rattle.std.proofs.Common.{◌≡◌, ◌≤◌, length, ◌+◌}
use Rattle.apex_laws.specs.Premises.{due_count}
use Rattle.apex_machine.specs.processes.Dues.{first_due}
use Rattle.apex_types.specs.declared.limits.TheConstants.{MOST_NOTICES}
use Rattle.apex_machine.specs.processes.Periods.{AreInTime}
use Rattle.apex_machine.specs.services.InTurn.{behind}
use Rattle.apex_machine.specs.processes.Stamps.{HasOrderlyStarts}
use Rattle.apex_machine.specs.Ticks.{serve_due, serve_dues}
use Rattle.apex_machine.proofs.Reaches.{Reaches}
use Rattle.apex_machine.proofs.Loops.{LeadsTo}
use Rattle.apex_dispatch.proofs.ticks.serve_dues.Given as goal

abbrev pub invariant-loop-round : goal.invariant-loop-round
invariant-loop-round g l = record {
  rest : LeadsTo first_due serve_due
      (behind l.fn.notices (serve_dues (g.S.Store.roster l.fn.store))) l.round l.round-end (g.S.Store.roster l.store) l.notices;
  reaches : Reaches l.round (g.S.Store.roster l.fn.store) (g.S.Store.roster l.store);
  starts : HasOrderlyStarts (g.S.Store.roster l.store);
  end : l.round-end ≡ length (g.S.Store.roster l.fn.store).records;
  times : AreInTime (g.S.Store.roster l.store);
  room : length l.notices + due_count (g.S.Store.roster l.store) ≤ MOST_NOTICES;
}
