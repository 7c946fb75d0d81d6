use Rattle.std.proofs.Common.{arith}
use Rattle.apex_process.proofs.Owning.{first_among}
use Rattle.apex_process.proofs.owners.first_among.Goals as goal

pub returns : goal.returns
returns c = rw c.at.ensures (first_among c.args.word c.requires (omega (arith, c.ranges.word.fits)))
