use Rattle.std.proofs.Common.{arith}
use Rattle.std.proofs.lemmas.Grind.{common_steps}
use Rattle.apex_receipts.proofs.speakers.Speaker.call.Goals as goal

pub returns-clause-said : goal.returns-clause-said
returns-clause-said c = grind (arith, common_steps)
