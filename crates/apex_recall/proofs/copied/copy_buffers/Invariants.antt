use Rattle.apex_recall.proofs.Copying.{IsCopying}
use Rattle.apex_recall.proofs.copied.copy_buffers.Given as goal

abbrev pub invariant-loop-place : goal.invariant-loop-place
invariant-loop-place l = IsCopying l.fn.buffers l.others l.buffers l.place
