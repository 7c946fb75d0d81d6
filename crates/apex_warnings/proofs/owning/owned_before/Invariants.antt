use Rattle.std.proofs.Common.{◌≡◌, drop, [], fold}
use Rattle.apex_warnings.specs.Owning.{owned_after}
use Rattle.apex_warnings.proofs.owning.owned_before.Given as goal

-- the calls that are left lead from these mutexes to the last ones
abbrev pub invariant-loop-call : goal.invariant-loop-call
invariant-loop-call l =
    fold (owned_after l.steps l.process) l.held (drop l.call-index l.calls)
    ≡ fold (owned_after l.steps l.process) [] l.calls
