use Rattle.std.proofs.Common.{le_trans}
use Rattle.apex_pace.proofs.Eager.{eager_few, eager_may, left_most}
use Rattle.apex_pace.proofs.Ends.{ticks_or_rests}
use Rattle.apex_pace.proofs.laws.time_goes_on.Goals as goal

pub returns : goal.returns
returns c pace table s most = record {
  turns = eager_may pace most table s;
  few = λ events eager. le_trans (eager_few pace table s events eager) (left_most pace.turns s.turns table.cores);
  ticks = ticks_or_rests pace table s;
}
