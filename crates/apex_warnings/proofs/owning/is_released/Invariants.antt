use Rattle.std.proofs.Common.{◌≡◌, ◌≤◌, ◌+◌, drop}
use Rattle.apex_warnings.specs.Owning.{is_released}
use Rattle.apex_warnings.proofs.owning.is_released.Given as goal

-- the answer is that of the calls that are left
abbrev pub invariant-loop-call : goal.invariant-loop-call
invariant-loop-call l = record {
  rest : is_released l.mutex l.depth (drop l.call-index l.calls) ≡ is_released l.mutex 1 l.calls;
  bound : l.depth ≤ l.call-index + 1;
}
