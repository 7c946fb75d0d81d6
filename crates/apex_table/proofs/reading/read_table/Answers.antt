use Rattle.std.proofs.Common.{arith}
use Rattle.apex_table.specs.Reading.{table_of, reading}
use Rattle.apex_table.proofs.TextLaws.{texts_given}
use Rattle.apex_table.proofs.reading.read_table.Goals as goal

pub returns-clause-texts : goal.returns-clause-texts
unfolding table_of reading
returns-clause-texts c = grind (arith, texts_given)
