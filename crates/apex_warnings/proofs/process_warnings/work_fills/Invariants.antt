use Rattle.std.proofs.Common.{◌≡◌, ◌≤◌, drop}
use Rattle.apex_warnings.specs.Jobs.{work_fills}
use Rattle.apex_warnings.proofs.process_warnings.work_fills.Given as goal

-- the answer is that of the calls that are left
abbrev pub invariant-loop-call : goal.invariant-loop-call
invariant-loop-call l = record {
  rest : work_fills l.limit l.done (drop l.call-index l.calls) ≡ work_fills l.limit 0 l.calls;
  bound : l.done ≤ l.limit;
}
