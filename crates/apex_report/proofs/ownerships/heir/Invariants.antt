-- The heir is that of the processes so far.
use Rattle.std.proofs.Common.{◌≡◌, None, fold, take}
use Rattle.apex_report.specs.Ownerships.{heir_after}
use Rattle.apex_report.proofs.ownerships.heir.Given as goal

abbrev pub invariant-loop-waking : goal.invariant-loop-waking
invariant-loop-waking l = l.heir ≡ fold (heir_after l.queue l.entry) None (take l.waking-index l.wakings)
