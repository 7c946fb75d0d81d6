use Rattle.std.proofs.Common.{arith}
use Rattle.apex_ready.proofs.Marks.{highest_bit}
use Rattle.apex_ready.proofs.orders.highest_bit.Goals as goal

pub returns : goal.returns
returns c = highest_bit c.args.marks c.requires (omega (arith, c.ranges.marks.fits))
