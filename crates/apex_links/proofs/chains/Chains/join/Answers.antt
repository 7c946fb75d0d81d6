use Rattle.std.proofs.Common.{Some}
use Rattle.apex_links.proofs.Splices.{led_trailed}
use Rattle.apex_links.proofs.chains.Chains.join.Goals as goal

pub returns-clause-ends : goal.returns-clause-ends
returns-clause-ends c =
    rw (c.precede.ensures.ends, c.follow.ensures.ends) (led_trailed c.args.self.now.ends.items c.args.list c.args.place.before c.args.place.after (Some c.args.process) (Some c.args.process) c.requires.list)
