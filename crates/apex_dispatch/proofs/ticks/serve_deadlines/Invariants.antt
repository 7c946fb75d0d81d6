use Rattle.std.proofs.Common.{◌≡◌, ◌≤◌, length, ◌+◌, ◌*◌}
use Rattle.apex_machine.specs.processes.Dues.{first_missed, is_missed_at}
use Rattle.apex_machine.specs.services.InTurn.{behind}
use Rattle.apex_machine.specs.processes.Stamps.{HasOrderlyStarts}
use Rattle.apex_machine.specs.Ticks.{serve_deadlines, serve_missed}
use Rattle.apex_machine.proofs.Reaches.{Reaches}
use Rattle.apex_machine.proofs.Loops.{LeadsTo}
use Rattle.apex_laws.proofs.Counts.{count}
use Rattle.apex_laws.proofs.MissesServed.{may_wake}
use Rattle.apex_dispatch.proofs.ticks.serve_deadlines.Given as goal

-- the notices so far, and those of the processes that may still be woken or miss a deadline, are at most
-- two for each process
abbrev pub invariant-loop-round : goal.invariant-loop-round
invariant-loop-round g l = record {
  rest : LeadsTo first_missed serve_missed
      (behind l.fn.notices (serve_deadlines (g.S.Store.roster l.fn.store))) l.round l.round-end (g.S.Store.roster l.store) l.notices;
  reaches : Reaches (length l.notices) (g.S.Store.roster l.fn.store) (g.S.Store.roster l.store);
  starts : HasOrderlyStarts (g.S.Store.roster l.store);
  end : l.round-end ≡ length (g.S.Store.roster l.fn.store).records;
  room : length l.notices + count (may_wake (g.S.Store.roster l.store).now) (g.S.Store.roster l.store)
      + count (is_missed_at (g.S.Store.roster l.store).now) (g.S.Store.roster l.store) ≤ 2 * length (g.S.Store.roster l.fn.store).records;
}
