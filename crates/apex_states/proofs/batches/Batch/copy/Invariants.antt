use Rattle.std.proofs.Common.{◌≡◌}
use Rattle.apex_states.specs.Batches.{IsCopied}
use Rattle.apex_states.proofs.batches.Batch.copy.Given as goal

abbrev pub invariant-loop-place : goal.invariant-loop-place
invariant-loop-place l = record {
  same : l.states ≡ l.initial.states;
  copied : IsCopied l.initial.states l.from l.place l.self;
}
