use Rattle.std.proofs.Common.{arith}
use Rattle.std.proofs.lemmas.Grind.{common_steps}
use Rattle.apex_table.specs.Reading.{draft}
use Rattle.apex_table.proofs.reading.read_draft.Goals as goal

pub returns-clause-few_steps : goal.returns-clause-few_steps
unfolding draft
returns-clause-few_steps c = grind (arith, common_steps)
