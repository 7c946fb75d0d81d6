-- Each column says what holds after its entry.
use Rattle.apex_moments.proofs.Columns.{pictures}
use Rattle.apex_moments.proofs.laws.columns_say_entries.Goals as goal

pub returns : goal.returns
returns c = pictures
