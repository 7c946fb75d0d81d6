-- A kernel that is asked for an event.
use Rattle.std.proofs.Common.{◌≡◌, ◌∙◌, false, ◌≤◌, ◌<◌, Result, Ok, Err, length, refl, ap, inl, inr, sym}
use Rattle.std.specs.Prelude.{◌↔◌, IsOk, OnOk, OnErr}
use Rattle.std.proofs.lemmas.Bool.{both_ways, cases_lt}
use Rattle.apex_laws.specs.Terms.{Event}
use Rattle.apex_machine.specs.Machine.{Machine, happen, accept}
use Rattle.apex_laws.proofs.Runs.{accept-full, accept-room}
use Rattle.apex_dispatch.specs.Kernel.{KernelState, kernel_in}

-- a kernel that takes the event if there is room, and stays as it is otherwise
pub accepts : {S E : Type 0} (result : Result (Unit {0}) E) (old new : KernelState S) (event : Event)
    → old ≡ kernel_in old.table old.machine old.store
    → (IsOk result ↔ (length old.machine.history < old.table.limit))
    → OnOk result (new ≡ kernel_in old.table (happen old.table old.machine event) new.store)
    → OnErr result (new ≡ old) → new ≡ kernel_in old.table (accept old.table old.machine event) new.store
accepts (Ok done) old new event values room made stays =
    made ∙ ap (λ (m : Machine). kernel_in old.table m new.store) (sym (accept-room old.table old.machine event (room.0 refl)))
accepts {S} (Err e) old new event values room made stays =
    let full : old.table.limit ≤ length old.machine.history = elim (cases_lt (length old.machine.history) old.table.limit) [
      | inl less ↦ absurd (both_ways false refl (room.1 less))
      | inr full ↦ full
    ] in
    stays
    ∙ values
    ∙ ap (λ (m : Machine). kernel_in old.table m old.store) (sym (accept-full old.table old.machine event full))
    ∙ ap (λ (k : KernelState S). kernel_in old.table (accept old.table old.machine event) k.store) (sym stays)
