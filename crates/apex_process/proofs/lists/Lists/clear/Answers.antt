use Rattle.std.proofs.Common.{arith, rules}
use Rattle.apex_process.proofs.Emptied.{all_out}
use Rattle.apex_process.proofs.lists.Lists.clear.Goals as goal

pub returns-clause-links : goal.returns-clause-links
returns-clause-links c =
    let out = rw (← c.self.view_is) at c.loop-place.invariant.out in
    rw (← c.self.view_is) (all_out _ c.self.inside.links c.loop-place.place out (omega (arith, c.loop-place-test.false, c.requires, out.processes)) c.holds.ensures)

pub loop-place-init : goal.loop-place-init
loop-place-init c = search rules
