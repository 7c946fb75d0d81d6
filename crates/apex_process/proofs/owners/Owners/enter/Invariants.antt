use Rattle.std.proofs.Common.{◌≡◌, ◌≢◌, ℕ, ◌<◌, take}
use Rattle.apex_machine.specs.processes.Held.{holds}
use Rattle.apex_links.specs.declared.numbers.TheConstants.{ID_PLACES}
use Rattle.apex_process.specs.Owners.{is_owner, most_owners}
use Rattle.apex_process.proofs.owners.Owners.enter.Given as goal

-- the process owns those so far
abbrev pub invariant-loop-holding : goal.invariant-loop-holding
invariant-loop-holding l = record {
  here : (m : ℕ) → m < ID_PLACES → is_owner l.self m l.fn.process ≡ holds m (take l.holding-index l.held);
  others : (m p : ℕ) → p < most_owners → p ≢ l.fn.process → is_owner l.self m p ≡ is_owner l.fn.self m p;
}
