use Rattle.std.proofs.Common.{refl}
use Rattle.apex_types.proofs.Digits.{from_the_left}
use Rattle.apex_tasks.proofs.numbers.long_number.Goals as goal

pub loop-digit-init : goal.loop-digit-init
loop-digit-init c = (0, refl, from_the_left c.args.word.now)
