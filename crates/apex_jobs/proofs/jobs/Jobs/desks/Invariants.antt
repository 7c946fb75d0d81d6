use Rattle.std.proofs.Common.{◌≡◌, length}
use Rattle.apex_explore.specs.Desks.{IsDesk}
use Rattle.apex_states.specs.Lists.{AllAre}
use Rattle.apex_jobs.proofs.jobs.Jobs.desks.Given as goal

abbrev pub invariant-loop : goal.invariant-loop
invariant-loop g l = record {
  count : length l.desks.items ≡ l.counter;
  desks : AllAre (IsDesk (g.S.System.word_count l.system) (g.S.System.is_workspace l.system)) l.desks.items;
}
