-- Each process is in one state.
use Rattle.std.proofs.Common.{◌≡◌, ℕ, Bool, true, false, Option, Some, refl, sym, ap, ◌∙◌}
use Rattle.std.proofs.lemmas.Bool.{both_ways}
use Rattle.apex_laws.specs.Terms.{State}
use Rattle.apex_types.specs.declared.modes.State.TheVariants.{Dormant, Ready, Running, Waiting}
use Rattle.apex_machine.specs.processes.Roster.{Roster, record_at}
use Rattle.apex_machine.specs.processes.Running.{is_eligible, chosen, is_process}
use Rattle.apex_machine.proofs.States.{state_by, is_found, found_is, eligible_started, chosen_parts}
use Rattle.apex_laws.specs.States.{IsIn, HasOneState}

module _ (roster : Roster) (p : ℕ) where
  abbrev own : Option ℕ
  own = chosen roster (record_at roster p).core

  -- a core that chose the process is its own
  own_core : (core : ℕ) → chosen roster core ≡ Some p → own ≡ Some p
  own_core core e = ap (chosen roster) (chosen_parts roster core p e).2 ∙ e

  is_started : is_eligible roster.mode (record_at roster p) ≡ true → (record_at roster p).started ≡ true
  is_started = eligible_started roster.mode (record_at roster p)

  in_state : (started eligible runs : Bool) → (record_at roster p).started ≡ started
      → is_eligible roster.mode (record_at roster p) ≡ eligible → is_process p own ≡ runs → IsIn roster p (state_by started eligible runs)
  in_state false eligible runs s e r = s
  in_state true false runs s e r = (s, e)
  in_state true true true s e r = ((record_at roster p).core, is_found p own r)
  in_state true true false s e r = (e, λ core found. both_ways _ r (found_is p own (own_core core found)))

  only_state : (started eligible runs : Bool) → (record_at roster p).started ≡ started
      → is_eligible roster.mode (record_at roster p) ≡ eligible → is_process p own ≡ runs
      → (state : State) → IsIn roster p state → state ≡ state_by started eligible runs
  only_state false eligible runs s e r Dormant h = refl
  only_state true eligible runs s e r Dormant h = absurd (both_ways _ h s)
  only_state started false runs s e r Ready h = absurd (both_ways _ e h.0)
  only_state false true runs s e r Ready h = absurd (both_ways _ s (is_started h.0))
  only_state true true true s e r Ready h = absurd (h.1 (record_at roster p).core (is_found p own r))
  only_state true true false s e r Ready h = refl
  only_state started eligible false s e r Running h = absurd (both_ways _ r (found_is p own (own_core h.0 h.1)))
  only_state started false true s e r Running h = absurd (both_ways _ e (chosen_parts roster h.0 p h.1).1)
  only_state false true true s e r Running h = absurd (both_ways _ s (is_started e))
  only_state true true true s e r Running h = refl
  only_state false eligible runs s e r Waiting h = absurd (both_ways _ s h.0)
  only_state true true runs s e r Waiting h = absurd (both_ways _ h.1 e)
  only_state true false runs s e r Waiting h = refl

  -- each process of a roster is in one state
  pub one_state : HasOneState roster p
  one_state = record {
    is = in_state _ _ _ refl refl refl;
    only = only_state _ _ _ refl refl refl;
    core = λ core e. sym (chosen_parts roster core p e).2;
  }
