use Rattle.std.proofs.Common.{◌∙◌, sym, ap, subst}
use Rattle.std.specs.Int.{bit_at}
use Rattle.apex_incoming.specs.Places.{ArePlaces}
use Rattle.apex_incoming.proofs.Places.{all_set, are_places, mask_is}
use Rattle.apex_incoming.proofs.lanes.places_of.Goals as goal

pub returns-clause-places : goal.returns-clause-places
returns-clause-places c =
    let text = c.args.bytes.now in
    subst (ArePlaces c.args.byte text) (sym (mask_is c.args.byte text c.requires)) (are_places c.args.byte text c.requires)

pub returns-clause-all : goal.returns-clause-all
returns-clause-all c k under here =
    let text = c.args.bytes.now in
    ap (λ m. bit_at m k) (mask_is c.args.byte text c.requires) ∙ all_set c.args.byte text c.requires k under here
