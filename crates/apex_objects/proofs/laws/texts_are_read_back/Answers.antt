-- The reader takes back each text.
use Rattle.apex_objects.proofs.ReadBack.{all_back}
use Rattle.apex_objects.proofs.laws.texts_are_read_back.Goals as goal

pub returns : goal.returns
returns c = all_back
