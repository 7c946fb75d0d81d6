use Rattle.std.proofs.Common.{arith}
use Rattle.apex_history.proofs.Digits.{pair_at}
use Rattle.apex_history.proofs.puts.pair.Goals as goal

pub returns : goal.returns
returns c = grind (arith, pair_at)
