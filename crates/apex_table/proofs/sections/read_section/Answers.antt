use Rattle.std.proofs.Common.{arith}
use Rattle.std.proofs.lemmas.Grind.{common_steps}
use Rattle.apex_table.specs.Sections.{section}
use Rattle.apex_table.proofs.sections.read_section.Goals as goal

pub returns-in_err-next_entry-clause-gives : goal.returns-in_err-next_entry-clause-gives
unfolding section
returns-in_err-next_entry-clause-gives g c = grind (arith, common_steps)

pub loop-item-preserved : goal.loop-item-preserved
unfolding section
loop-item-preserved g c = grind (arith, common_steps)

pub returns-clause-gives : goal.returns-clause-gives
unfolding section
returns-clause-gives g c = grind (arith, common_steps)
