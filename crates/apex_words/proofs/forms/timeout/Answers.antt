use Rattle.std.proofs.Common.{rules}
use Rattle.apex_words.proofs.forms.timeout.Goals as goal

pub returns-in-infinite : goal.returns-in-infinite
returns-in-infinite c = search rules
