use Rattle.std.proofs.Common.{◌≡◌, ℕ, ◌+◌, nat_lt, if◌then◌else◌, length}
use Rattle.apex_types.specs.declared.limits.TheConstants.{MOST_CORES}
use Rattle.apex_choices.specs.Counts.{count_at}
use Rattle.apex_choices.proofs.counts.Counts.tick.Given as goal

abbrev pub invariant-loop-place : goal.invariant-loop-place
invariant-loop-place l = record {
  many : length l.self-inside.worked ≡ MOST_CORES;
  turns : l.self-inside.turns ≡ l.initial.self-inside.turns;
  worked : (core : ℕ) → count_at l.self-inside.worked core
      ≡ (if nat_lt core l.place then count_at l.fn.self.worked core + l.ticks else count_at l.fn.self.worked core);
}
