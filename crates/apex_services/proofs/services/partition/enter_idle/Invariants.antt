use Rattle.std.proofs.Common.{◌≡◌, ◌≤◌, ◌<◌, length, ℕ}
use Rattle.apex_types.specs.declared.limits.TheConstants.{MOST_PROCESSES}
use Rattle.apex_types.specs.declared.modes.Mode.TheVariants.{Idle}
use Rattle.apex_machine.specs.processes.Roster.{record_at}
use Rattle.apex_machine.specs.processes.Stamps.{stopped}
use Rattle.apex_services.proofs.services.partition.enter_idle.Given as goal

abbrev pub invariant-loop-place : goal.invariant-loop-place
invariant-loop-place g l = record {
  same : g.S.Store.roster l.store
      ≡ record (g.S.Store.roster l.fn.store) { mode = Idle; records = (g.S.Store.roster l.store).records };
  many : length (g.S.Store.roster l.store).records ≡ length (g.S.Store.roster l.fn.store).records;
  end : l.place-end ≡ length (g.S.Store.roster l.fn.store).records;
  few : l.place-end ≤ MOST_PROCESSES;
  done : (p : ℕ) → p < l.place → record_at (g.S.Store.roster l.store) p
      ≡ stopped (record_at (g.S.Store.roster l.fn.store) p);
  rest : (p : ℕ) → l.place ≤ p → record_at (g.S.Store.roster l.store) p ≡ record_at (g.S.Store.roster l.fn.store) p;
}
