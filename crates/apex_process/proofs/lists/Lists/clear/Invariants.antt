use Rattle.std.proofs.Common.{◌≡◌}
use Rattle.apex_process.proofs.Emptied.{AreOut}
use Rattle.apex_process.proofs.lists.Lists.clear.Given as goal

abbrev pub invariant-loop-place : goal.invariant-loop-place
invariant-loop-place l = record {
  out : AreOut l.fn.self.links l.self.links l.place;
  priorities : l.self.priorities ≡ l.fn.self.priorities;
}
