-- If memory is wanting, the bytes of the reads so far are gone from the reader.
use Rattle.std.proofs.Common.{◌++◌, take, arith}
use Rattle.std.proofs.KnownBytes.{Consumes-trans}
use Rattle.std.proofs.lemmas.Grind.{common_steps}
use Rattle.apex_history.proofs.Outcomes.{OnErr-always}
use Rattle.apex_history.proofs.reading.read_all.Goals as goal

pub returns-in_err-extend_from_slice-clause-beginning : goal.returns-in_err-extend_from_slice-clause-beginning
returns-in_err-extend_from_slice-clause-beginning g c =
    OnErr-always c.from_residual.result (c.loop-count.all.items ++ take c.in-Ok.count c.read.new.buf, Consumes-trans _ _ _ _ _ c.loop-count.invariant.bytes c.in-Ok.ensures.bytes.0)

pub loop-count-preserved : goal.loop-count-preserved
loop-count-preserved g c = grind (arith, common_steps)
