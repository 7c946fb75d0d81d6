use Rattle.std.proofs.Common.{◌≡◌, ℕ, length}
use Rattle.apex_types.specs.declared.limits.TheConstants.{MOST_CORES}
use Rattle.apex_dispatch.specs.Works.{work_at}
use Rattle.apex_recall.specs.Restored.{works_in}
use Rattle.apex_recall.proofs.restored.works_in.Given as goal

-- the work of the cores so far
abbrev pub invariant-loop-number : goal.invariant-loop-number
invariant-loop-number l = record {
  each : (core : ℕ) → work_at l.of_core core ≡ works_in l.number l.words core;
  many : length l.of_core ≡ MOST_CORES;
}
