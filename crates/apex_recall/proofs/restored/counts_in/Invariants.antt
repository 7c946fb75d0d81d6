use Rattle.std.proofs.Common.{◌≡◌, ℕ}
use Rattle.apex_choices.specs.Counts.{count_at}
use Rattle.apex_recall.specs.Restored.{turns_in, worked_in}
use Rattle.apex_recall.proofs.restored.counts_in.Given as goal

-- the counts of the cores so far
abbrev pub invariant-loop-number : goal.invariant-loop-number
invariant-loop-number l = record {
  turns : (core : ℕ) → count_at l.counts.turns core ≡ turns_in l.number l.words core;
  worked : (core : ℕ) → count_at l.counts.worked core ≡ worked_in l.number l.words core;
}
