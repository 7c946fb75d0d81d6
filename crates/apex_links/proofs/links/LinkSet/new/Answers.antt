use Rattle.apex_links.proofs.Steps.{new_shows}
use Rattle.apex_links.proofs.links.LinkSet.new.Goals as goal

pub invariant_of-result : goal.invariant_of-result
invariant_of-result c = (new_shows _ _ _ _ c.in_ok-new.ensures.nodes c.in_ok-new.ensures.ends).linked

pub returns : goal.returns
returns c = (new_shows _ _ _ _ c.in_ok-new.ensures.nodes c.in_ok-new.ensures.ends).seen
