use Rattle.std.proofs.Common.{rules}
use Rattle.apex_words.proofs.forms.entry_of.Goals as goal

pub returns-in-None : goal.returns-in-None
returns-in-None c = search rules
