use Rattle.apex_alike.proofs.Served.{can_be_served}
use Rattle.apex_alike.proofs.forms.canonical_rosters_can_be_served.Goals as goal

pub returns : goal.returns
returns c = can_be_served
