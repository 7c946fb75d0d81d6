use Rattle.std.proofs.Common.{arith}
use Rattle.std.proofs.lemmas.Grind.{common_steps}
use Rattle.apex_table.proofs.steps.with_words.Goals as goal

pub returns-in_default-words_left : goal.returns-in_default-words_left
returns-in_default-words_left c = grind (arith, common_steps)

pub loop-shapes_left-preserved : goal.loop-shapes_left-preserved
loop-shapes_left-preserved c = grind (arith, common_steps)

pub returns : goal.returns
returns c = grind (arith, common_steps)
