-- The call of a turn is carried out for its caller; and the notices of which a list has one or none.
use Rattle.std.proofs.Common.{◌≡◌, ℕ, zero, suc, ◌<◌, false, length, [], ◌∷◌, Option, None, Some, refl, sym, ap, subst, arith}
use Rattle.std.specs.Prelude.{Contains}
use Rattle.std.proofs.lemmas.Bool.{both_ways, cond_both}
use Rattle.std.proofs.lemmas.Option.{none-some, same_Some}
use Rattle.apex_laws.specs.Terms.{Call, Caller, Notice, OpenWork, Record}
use Rattle.apex_types.specs.declared.calls.Call.TheVariants.{Caller as ToCaller, Work as ToWork}
use Rattle.apex_types.specs.declared.calls.CallerCall.TheVariants.{StopSelf}
use Rattle.apex_types.specs.declared.entries.Caller.TheVariants.{Process, Init}
use Rattle.apex_machine.specs.Deeds.{Deed, Objects, chosen_deed, move_on, next_place, script_deed, served, step_of, turn_deed}
use Rattle.apex_machine.specs.processes.Roster.{Roster, record_at}
use Rattle.apex_machine.specs.processes.Running.{chosen}
use Rattle.apex_machine.specs.services.Callers.{IsReady}
use Rattle.apex_machine.specs.services.Calls.{is_work}
use Rattle.apex_machine.specs.table.Table.{Table, process_config}
use Rattle.apex_machine.proofs.Replaces.{each_stays, replaces_record}
use Rattle.apex_machine.proofs.Starts.{chosen_ready, ready_step}

-- the call of a deed is carried out for its caller, while each process waits for what it waited for
-- before the deed
pub record IsCarriedOut (roster : Roster) (objects : Objects) (deed : Deed) (call : Call) : Type 0 where
  pub left : Roster
  pub waits : (q : ℕ) → (record_at left q).wait ≡ (record_at roster q).wait
  pub known : (p : ℕ) → deed.caller ≡ Process p → p < length left.records
  pub is : deed ≡ served left objects deed.caller call

-- so it is at a turn, if the call is no work
module _ (table : Table) (roster : Roster) (objects : Objects) (call : Call) (plain : is_work call ≡ false) where
  abbrev pub IsOne : Deed → Type 0
  IsOne deed = deed.call ≡ Some call → IsCarriedOut roster objects deed call

  one_served : (left : Roster) (caller : Caller) (c : Call) → ((q : ℕ) → (record_at left q).wait ≡ (record_at roster q).wait)
      → ((p : ℕ) → caller ≡ Process p → p < length left.records) → IsOne (served left objects caller c)
  one_served left caller c waits known e =
      record { left = left; waits = waits; known = known; is = ap (served left objects caller) (same_Some c call e) }

  module _ (p : ℕ) (ready : IsReady roster p) where
    one_by_process : (left : Roster) (c : Call) → ((q : ℕ) → (record_at left q).wait ≡ (record_at roster q).wait)
        → IsReady left p → IsOne (served left objects (Process p) c)
    one_by_process left c waits still =
        one_served left (Process p) c waits (λ k by. let same : p ≡ k = cc in subst (λ (n : ℕ). n < length left.records) same still.known)

    one_script : (step : Option Call) → IsOne (script_deed table roster objects p step)
    one_script None = one_by_process roster (ToCaller StopSelf) (λ q. refl) ready
    one_script (Some c) =
        let r = record_at roster p in
        let next = next_place (process_config table p) r.step in
        let moved : Record = record r { step = next } in
        cond_both {A = Roster} (is_work c) roster (move_on table roster p) (λ left. IsOne (served left objects (Process p) c))
        (λ _. one_by_process roster c (λ q. refl) ready)
        (λ _. one_by_process (move_on table roster p) c
        (each_stays (replaces_record roster p ready.known moved refl 0) (λ s t. t.wait ≡ s.wait) (λ _. refl) refl)
        (ready_step roster p next ready))

  one_chosen : (core : ℕ) (found : Option ℕ) → chosen roster core ≡ found → IsOne (chosen_deed table roster objects found)
  one_chosen core None is = λ e. absurd (none-some call e)
  one_chosen core (Some p) is = one_script p (chosen_ready roster core p is) (step_of table roster p)

  pub one_turn : (core : ℕ) (ongoing : Option OpenWork) (due : Option Call) → IsOne (turn_deed table roster objects core ongoing due)
  one_turn core (Some o) due = λ e. absurd (both_ways _ plain (ap is_work (sym (same_Some (ToWork o.work.amount) call e))))
  one_turn core None None = one_chosen core (chosen roster core) refl
  one_turn core None (Some c) = one_served roster Init c (λ q. refl) (λ p by. cc)

-- the one notice of a list, and none
pub only : (n m : Notice) → Contains (n ∷ []) m → n ≡ m
only n m (zero, below, is) = is
only n m (suc place, below, is) = absurd (omega (arith, below))

pub nothing : (n : Notice) → Contains [] n → ⊥
nothing n (place, below, is) = omega (arith, below)
