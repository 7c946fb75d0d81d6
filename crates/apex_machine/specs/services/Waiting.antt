-- A process that calls begins to wait.
use Rattle.std.specs.Prelude.{ℕ}
use Rattle.apex_machine.specs.Terms.{Timeout, Wait}
use Rattle.apex_types.specs.declared.calls.Timeout.TheVariants.{Poll, Ticks, Infinite}
use Rattle.apex_types.specs.declared.entries.Reply.TheVariants.{Blocked}
use Rattle.apex_types.specs.declared.entries.ReturnCode.TheVariants.{NotAvailable}
use Rattle.apex_machine.specs.processes.Roster.{Roster}
use Rattle.apex_machine.specs.processes.Dues.{due_after}
use Rattle.apex_machine.specs.services.Rows.{Outcome, replied, refused}
use Rattle.apex_machine.specs.processes.Stamps.{block}

-- process p blocks until the timeout is over
abbrev pub blocked : {X : Type 0} → Roster → X → ℕ → Wait → Timeout → Outcome X
blocked roster object p wait timeout =
    replied (block roster p wait (due_after roster timeout)) object Blocked

-- process p waits until the timeout is over; with a timeout of 0 it is refused
abbrev pub wait_for : {X : Type 0} → Roster → X → ℕ → Wait → Timeout → Outcome X
wait_for roster object p wait Poll = refused roster object NotAvailable
wait_for roster object p wait (Ticks n) = blocked roster object p wait (Ticks n)
wait_for roster object p wait Infinite = blocked roster object p wait Infinite
