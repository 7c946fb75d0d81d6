use Rattle.std.proofs.Common.{◌≡◌, ◌≤◌, ◌++◌, take, vec_capacity}
use Rattle.apex_history.proofs.histories.put_notices.Given as goal

abbrev pub invariant-loop-notice : goal.invariant-loop-notice
invariant-loop-notice l = (l.all.items ≡ l.fn.all.items ++ take l.notice-index l.notices) × (vec_capacity l.fn.all ≤ vec_capacity l.all)
