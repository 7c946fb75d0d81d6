use Rattle.std.proofs.Common.{rules}
use Rattle.apex_words.proofs.forms.number.Goals as goal

pub returns-in-Some : goal.returns-in-Some
returns-in-Some c = search rules
