use Rattle.std.proofs.Common.{◌≡◌, slice_get}
use Rattle.apex_links.specs.Links.{list_at}
use Rattle.apex_links.specs.Placing.{first_such}
use Rattle.apex_links.proofs.Walking.{such_from}
use Rattle.apex_links.proofs.links.LinkSet.first_such.Given as goal

abbrev pub invariant-loop-round : goal.invariant-loop-round
invariant-loop-round g l =
    (l.at ≡ slice_get (list_at l.self l.fn.list) l._round)
    × (such_from (g.T.Test.passes l.test) l._round (list_at l.self l.fn.list) ≡ first_such (g.T.Test.passes l.test) (list_at l.self l.fn.list))
