use Rattle.std.proofs.Common.{arith}
use Rattle.std.proofs.lemmas.Grind.{common_steps}
use Rattle.apex_receipts.proofs.opened.Opened.into_parts.Goals as goal

pub returns-clause-voices : goal.returns-clause-voices
returns-clause-voices g c = grind (arith, common_steps)
