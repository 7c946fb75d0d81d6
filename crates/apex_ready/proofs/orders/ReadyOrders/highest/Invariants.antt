use Rattle.std.proofs.Common.{◌≡◌, ℕ, ◌+◌, ◌*◌, ◌<◌, ◌≤◌, false}
use Rattle.apex_links.specs.declared.numbers.TheConstants.{PRIORITIES}
use Rattle.apex_ready.specs.ReadyOrders.{is_marked, ready_list}
use Rattle.apex_ready.proofs.orders.ReadyOrders.highest.Given as goal

abbrev pub invariant-loop-round : goal.invariant-loop-round
invariant-loop-round l = (p : ℕ) → p < PRIORITIES → PRIORITIES ≤ p + 64 * l.round → is_marked l.self-inside.words (ready_list l.fn.core p) ≡ false
