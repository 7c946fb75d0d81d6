use Rattle.std.proofs.Common.{◌≡◌, None, ap, sym, ◌∙◌, arith}
use Rattle.apex_links.specs.Links.{list_at, with_list}
use Rattle.apex_links.specs.Placing.{first_such}
use Rattle.apex_links.proofs.Walking.{last_known, nobody_passes, none_passes, placed_behind}
use Rattle.apex_links.proofs.links.LinkSet.place_sorted.Goals as goal
use Rattle.apex_links.proofs.links.LinkSet.place_sorted.Goals.{in_default-via-in-Some+else-passes, in_default-via-in_default}

pub passes-requires : goal.passes-requires
passes-requires g c =
    omega (arith, c.requires.known, last_known c.args.self.now c.holds.ensures c.args.list c.in-Some.last (sym c.back.ensures ∙ c.in-Some.is))

pub returns-in_default : goal.returns-in_default
returns-in_default g c =
    let nobody : first_such (g.T.Test.passes c.args.test.now) (list_at c.args.self.now c.args.list) ≡ None = elim c.in_default.branch [
      | in_default-via-in-Some+else-passes w ↦
          none_passes _ w.in-Some.last (list_at c.args.self.now c.args.list) c.requires.rising (sym c.back.ensures ∙ w.in-Some.is) (sym w.passes.ensures ∙ w.if-passes.false)
      | in_default-via-in_default w ↦ nobody_passes _ (list_at c.args.self.now c.args.list) (sym c.back.ensures ∙ w.in_default.is)
    ] in
    c.push_back.ensures ∙ ap (with_list c.args.self.now c.args.list) (placed_behind _ c.args.process (list_at c.args.self.now c.args.list) nobody)
