use Rattle.std.proofs.Common.{◌≡◌, true, ap, sym, ◌∙◌}
use Rattle.apex_links.specs.Neighbours.{stands_in}
use Rattle.apex_links.specs.Links.{list_at, with_list}
use Rattle.apex_links.proofs.Walking.{inserted_is, placed_before, placed_behind}
use Rattle.apex_links.proofs.links.LinkSet.place.Goals as goal

pub returns-in-Some : goal.returns-in-Some
returns-in-Some g c =
    let here : stands_in c.in-Some.other (list_at c.args.self.now c.args.list) ≡ true = rw c.in-Some.is at c.first_such.ensures.there in
    let at = sym c.first_such.ensures.value ∙ c.in-Some.is in
    c.insert_before.ensures ∙ inserted_is c.args.self.now c.holds.ensures c.args.list c.args.process c.in-Some.other c.requires.list here
    ∙ ap (with_list c.args.self.now c.args.list) (placed_before _ c.args.process c.in-Some.other (list_at c.args.self.now c.args.list) at)

pub returns-in-None : goal.returns-in-None
returns-in-None g c =
    let nobody = sym c.first_such.ensures.value ∙ c.in-None.is in
    c.push_back.ensures ∙ ap (with_list c.args.self.now c.args.list) (placed_behind _ c.args.process (list_at c.args.self.now c.args.list) nobody)
