use Rattle.apex_recall.proofs.Exact.{words_exact}
use Rattle.apex_recall.proofs.laws.words_are_exact.Goals as goal

pub returns : goal.returns
returns c = words_exact
