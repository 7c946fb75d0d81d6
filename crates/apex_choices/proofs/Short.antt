-- The event of a choice is allowed, and a tick that a pace allows is of as many ticks as one may have.
use Rattle.std.proofs.Common.{◌≡◌, ℕ, ◌≤◌, Bool, true, false, Option, None, Some, refl, sym, ◌∙◌, ap, subst, arith, ◌&&◌, nat_lt, not, option_map, if◌then◌else◌, eq-eqb, eqb-true}
use Rattle.std.proofs.lemmas.Bool.{and_from, cond_both, false≢true}
use Rattle.std.proofs.lemmas.Option.{none-some, same_Some}
use Rattle.apex_types.specs.declared.entries.Event.TheVariants.{Turn, Tick}
use Rattle.apex_types.specs.declared.limits.TheConstants.{MOST_TICKS}
use Rattle.apex_machine.specs.processes.Dues.{is_instant}
use Rattle.apex_machine.specs.table.Table.{Table}
use Rattle.apex_laws.proofs.GoesOn.{IsShort}
use Rattle.apex_pace.specs.Pace.{Paced, all_cores, is_allowed, is_quiet, is_settled, is_starting, may_turn, next_moment, next_tick, settled_tick, ticks_to}
use Rattle.apex_choices.specs.Choices.{event_of}
use Rattle.apex_choices.specs.Terms.{Event, Pace}

-- the ticks, if there are some, are 1 to the most of one tick
abbrev AreFew : Option ℕ → Type 0
AreFew ticks = (n : ℕ) → ticks ≡ Some n → (1 ≤ n) × (n ≤ MOST_TICKS)

few_to : (s : Paced) (moment : Option ℕ) → AreFew (option_map (ticks_to s) moment)
few_to s None n e = absurd (none-some n e)
few_to s (Some t) n e = let same : ticks_to s t ≡ n = same_Some _ _ e in (omega (arith, same), omega (arith, same))

few_settled : (percent : ℕ) (table : Table) (s : Paced) → AreFew (settled_tick percent table s)
few_settled percent table s =
    cond_both (all_cores (is_quiet percent s) table.cores) (option_map (ticks_to s) (next_moment percent table s)) (Some 1) AreFew
    (λ _. few_to s (next_moment percent table s)) (λ _ n e. let same : 1 ≡ n = same_Some _ _ e in (omega (arith, same), omega (arith, same)))

pub few_ticks : (pace : Pace) (table : Table) (s : Paced) → AreFew (next_tick pace table s)
few_ticks pace table s =
    cond_both (not (is_starting s) && all_cores (is_settled pace s) table.cores) (settled_tick pace.percent table s) None AreFew
    (λ _. few_settled pace.percent table s) (λ _ n e. absurd (none-some n e))

pub instant_is : (n : ℕ) (found : Option ℕ) → is_instant n found ≡ true → found ≡ Some n
instant_is n None e = absurd (false≢true e)
instant_is n (Some t) e = ap Some (sym (eqb-true n t e))

pub allowed_short : (pace : Pace) (table : Table) (s : Paced) (event : Event) → is_allowed pace table s event ≡ true → IsShort event
allowed_short pace table s (Turn core) allowed = tt
allowed_short pace table s (Tick n) allowed = (few_ticks pace table s n (instant_is n (next_tick pace table s) allowed)).1

-- the event of a choice is allowed
pub event_allowed : (pace : Pace) (table : Table) (s : Paced) (choice : ℕ) (event : Event) → event_of pace table s choice ≡ Some event
    → is_allowed pace table s event ≡ true
event_allowed pace table s choice event is = by_core (nat_lt choice table.cores) refl is where
  by_turn : (may : Bool) → may_turn pace table s choice ≡ may → nat_lt choice table.cores ≡ true
      → (if may then Some (Turn choice) else None) ≡ Some event → is_allowed pace table s event ≡ true
  by_turn true may core e =
      subst (λ (x : Event). is_allowed pace table s x ≡ true) (same_Some (Turn choice) event e)
      (and_from (nat_lt choice table.cores) (may_turn pace table s choice) core may)
  by_turn false may core e = absurd (none-some event e)

  by_tick : (found : Option ℕ) → next_tick pace table s ≡ found → option_map Tick found ≡ Some event
      → is_allowed pace table s event ≡ true
  by_tick None found e = absurd (none-some event e)
  by_tick (Some n) found e =
      subst (λ (x : Event). is_allowed pace table s x ≡ true) (same_Some (Tick n) event e)
      (ap (is_instant n) found ∙ eq-eqb n n refl)

  by_core : (core : Bool) → nat_lt choice table.cores ≡ core
      → (if core then (if may_turn pace table s choice then Some (Turn choice) else None) else option_map Tick (next_tick pace table s)) ≡ Some event
      → is_allowed pace table s event ≡ true
  by_core true core e = by_turn (may_turn pace table s choice) refl core e
  by_core false core e = by_tick (next_tick pace table s) refl e
