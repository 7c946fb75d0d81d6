use Rattle.std.proofs.Common.{◌≡◌, arith}
use Rattle.std.proofs.lemmas.Grind.{common_steps}
use Rattle.apex_links.specs.Chains.{node_at}
use Rattle.apex_links.proofs.Splices.{led_trailed}
use Rattle.apex_links.proofs.chains.Chains.part.Goals as goal

pub returns-clause-ends : goal.returns-clause-ends
returns-clause-ends c =
    let here : node_at c.args.self.now.nodes.items c.args.process ≡ c.index-place.result.now = grind (arith, common_steps, c.index-place.ensures, c.place.ensures.value, c.requires.process) in
    rw (c.precede.ensures.ends, c.follow.ensures.ends, here) (led_trailed c.args.self.now.ends.items c.args.list c.index-place.result.now.before c.index-place.result.now.after
    c.index-place.result.now.after c.index-place.result.now.before c.requires.list)
