use Rattle.std.proofs.Common.{◌-◌, length}
use Rattle.apex_rounds.proofs.Parts.{IsUnderway}
use Rattle.apex_rounds.proofs.rounds.Rounds.run_until.Given as goal

abbrev pub invariant-loop-self : goal.invariant-loop-self
invariant-loop-self g l = IsUnderway l.fn.self l.self l.fn.until

abbrev pub decreases-loop-self : goal.decreases-loop-self
decreases-loop-self g l = l.fn.self.kernel.table.limit - length l.self.kernel.machine.history
