use Rattle.apex_links.proofs.Steps.{sound}
use Rattle.apex_links.proofs.links.LinkSet.holds.Goals as goal

pub returns : goal.returns
returns c = rw (← c.self.view_is) (sound _ _ c.self.invariant)
