-- Laws of a row of the services: a property of each refusal, by which nothing changes, and of the
-- effect if no guard holds, is a property of the row.
use Rattle.std.proofs.Common.{◌≡◌, ℕ, Bool, false, cond, refl}
use Rattle.std.proofs.lemmas.Bool.{cond_both}
use Rattle.apex_machine.specs.Terms.{Caller, ReturnCode}
use Rattle.apex_types.specs.declared.entries.Caller.TheVariants.{Process, Init, Nobody}
use Rattle.apex_types.specs.declared.entries.ReturnCode.TheVariants.{InvalidMode}
use Rattle.apex_machine.specs.processes.Roster.{Roster}
use Rattle.apex_machine.specs.services.Rows.{Outcome, refused, by_process}
use Rattle.apex_machine.specs.services.Satisfied.{is_no_error}

module _ {X : Type 0} (roster : Roster) (object : X) (P : Outcome X → Type 0)
    (refuses : (code : ReturnCode) → is_no_error code ≡ false → P (refused roster object code)) where
  -- one guard, and the rest of the row if it does not hold
  pub by_guard : (holds : Bool) (code : ReturnCode) (rest : Outcome X) → is_no_error code ≡ false
      → (holds ≡ false → P rest) → P (cond holds (refused roster object code) rest)
  by_guard holds code rest bad passes =
      cond_both {A = Outcome X} holds (refused roster object code) rest P (λ _. refuses code bad) passes

  -- a service for a process that calls
  pub by_caller : (caller : Caller) (effect : ℕ → Outcome X) → ((p : ℕ) → caller ≡ Process p → P (effect p))
      → P (by_process roster object caller effect)
  by_caller (Process p) effect serves = serves p refl
  by_caller Init effect serves = refuses InvalidMode refl
  by_caller Nobody effect serves = refuses InvalidMode refl
