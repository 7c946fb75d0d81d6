use Rattle.std.proofs.Common.{◌≡◌, ◌≤◌, ◌≤ℤ◌, ◌+ℤ◌, pos, length, ◌+◌}
use Rattle.apex_machine.specs.services.InTurn.{behind}
use Rattle.apex_types.specs.declared.limits.TheConstants.{MOST_PROCESSES}
use Rattle.apex_machine.specs.services.Waking.{first_in, granted, grant_all}
use Rattle.apex_machine.proofs.Loops.{LeadsTo}
use Rattle.apex_store.proofs.waking.grant_all.Given as goal

abbrev pub invariant-loop-round : goal.invariant-loop-round
invariant-loop-round g l = record {
  rest : LeadsTo (first_in l.fn.queue) (granted l.fn.message)
      (behind l.fn.notices (grant_all l.fn.queue l.fn.message (g.S.Store.roster l.fn.store))) l.round l.round-end (g.S.Store.roster l.store) l.notices;
  many : length (g.S.Store.roster l.store).records ≡ length (g.S.Store.roster l.fn.store).records;
  young : (g.S.Store.roster l.store).young ≤ℤ ((g.S.Store.roster l.fn.store).young +ℤ pos l.round);
  old : (g.S.Store.roster l.store).old ≡ (g.S.Store.roster l.fn.store).old;
  end : l.round-end ≡ length (g.S.Store.roster l.fn.store).records;
  few : l.round-end ≤ MOST_PROCESSES;
  room : length l.notices ≤ MOST_PROCESSES + l.round;
}
