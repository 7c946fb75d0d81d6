use Rattle.std.proofs.Common.{arith}
use Rattle.apex_recall.proofs.Copying.{copying_ends}
use Rattle.apex_recall.proofs.copied.copy_buffers.Goals as goal

pub returns : goal.returns
returns c =
    copying_ends c.args.buffers.now c.args.others.now c.loop-place.buffers c.loop-place.place c.requires c.loop-place.invariant
    (omega (arith, c.loop-place-test.false))
