use Rattle.std.proofs.Common.{◌∙◌, ◌+◌, ◌≤◌, ap, arith, drop, length}
use Rattle.apex_incoming.proofs.Windows.{length_of, taken}
use Rattle.apex_incoming.proofs.pending.Pending.take.Goals as goal

pub returns : goal.returns
returns c =
    let w = c.self.inside in
    let inside : w.start + c.args.count ≤ w.end =
    omega (arith, c.requires, ap length c.self.view_is, length_of w.room w.start w.end c.self.invariant.1 (omega (arith, c.self.invariant.0, c.self.invariant.2))) in
    taken w.room w.start w.end c.args.count inside ∙ ap (drop c.args.count) c.self.view_is
