-- No column begins before the end of the one before it.
use Rattle.apex_pictures.proofs.Apart.{columns_apart}
use Rattle.apex_pictures.proofs.laws.columns_are_apart.Goals as goal

pub returns : goal.returns
returns c = columns_apart
