use Rattle.std.proofs.Common.{◌≡◌, ℕ, length}
use Rattle.apex_types.specs.declared.limits.TheConstants.{MOST_CORES}
use Rattle.apex_choices.specs.Counts.{paced_in}
use Rattle.apex_dispatch.specs.Works.{work_at}
use Rattle.apex_recall.specs.Copied.{works_before}
use Rattle.apex_recall.proofs.copied.works_of.Given as goal

-- the work of the cores so far
abbrev pub invariant-loop-number : goal.invariant-loop-number
invariant-loop-number l = record {
  each : (core : ℕ) → work_at l.of_core core ≡ works_before l.number (paced_in l.paced).situation.works core;
  many : length l.of_core ≡ MOST_CORES;
}
