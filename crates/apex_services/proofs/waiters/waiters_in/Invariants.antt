-- Behind those found so far come the next one and all behind it.
use Rattle.std.proofs.Common.{◌≡◌, ℕ, ◌+◌, ◌<◌, ◌≤◌, ◌++◌, length}
use Rattle.std.specs.Prelude.{IfSome}
use Rattle.apex_machine.specs.text.Listing.{waiters, waiters_from}
use Rattle.apex_laws.proofs.Queued.{WaitsIn}
use Rattle.apex_services.proofs.waiters.waiters_in.Given as goal

abbrev pub invariant-loop-round : goal.invariant-loop-round
invariant-loop-round g l =
    let roster = g.S.Store.roster l.store in
    record {
      end : l.round-end ≡ length roster.records;
      within : l.round ≤ l.round-end;
      many : length l.waiting ≡ l.round;
      known : IfSome l.next (λ p. p < length roster.records);
      stands : WaitsIn roster l.queue l.next;
      rest : (left : ℕ) → left + l.round ≡ l.round-end
          → l.waiting ++ waiters_from roster l.queue left l.next ≡ waiters roster l.queue;
    }
