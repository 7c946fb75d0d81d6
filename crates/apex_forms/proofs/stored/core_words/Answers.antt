use Rattle.std.proofs.Common.{rules}
use Rattle.apex_forms.proofs.stored.core_words.Goals as goal

pub returns : goal.returns
returns c = search rules
