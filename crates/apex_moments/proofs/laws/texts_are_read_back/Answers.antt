-- The reader takes back the text that was written.
use Rattle.apex_moments.proofs.ReadBack.{read_back}
use Rattle.apex_moments.proofs.laws.texts_are_read_back.Goals as goal

pub returns : goal.returns
returns c = read_back
