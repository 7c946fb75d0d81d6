-- A tighter pace allows no more.
use Rattle.std.proofs.Common.{◌≡◌, ℕ, zero, suc, ◌+◌, ◌-◌, ◌≤◌, Bool, true, false, List, [], ◌∷◌, Option, None, Some, inl, inr, refl, sym, ap, arith, nat_lt, is_some, ◌&&◌, ◌||◌, not, option_map, if◌then◌else◌, is_none, ltb-true, lt-ltb, le_refl, lt_of_lt_of_le, eq-eqb, eqb-true}
use Rattle.std.proofs.lemmas.Bool.{and_from, and_parts, cases_Bool, false≢true}
use Rattle.std.proofs.lemmas.Option.{none-some, same_Some}
use Rattle.apex_types.specs.declared.entries.Event.TheVariants.{Turn, Tick}
use Rattle.apex_machine.specs.Situations.{due_call}
use Rattle.apex_machine.specs.processes.Dues.{is_instant, next_instant, sooner}
use Rattle.apex_machine.specs.processes.Running.{chosen}
use Rattle.apex_machine.specs.table.Table.{Table}
use Rattle.apex_pace.specs.Laws.{IsTighter, MayTickWithin}
use Rattle.apex_pace.specs.Pace.{KeepsPace, Paced, all_cores, first_work_end, is_allowed, is_at_work, is_idle, is_quiet, is_settled, is_starting, is_within, least_ticks, may_turn, needs_time, next_moment, next_tick, paced_step, settled_tick, ticks_to, work_end}
use Rattle.apex_pace.specs.Terms.{Event, OpenWork, Pace}
use Rattle.apex_pace.proofs.Cores.{all_also}
use Rattle.apex_pace.proofs.Within.{least_mono, needs_less}

may_by : (starting due idle needs less : Bool) → (less ≡ true → needs ≡ true)
    → (if starting then due else not (idle || needs)) ≡ true → (if starting then due else not (idle || less)) ≡ true
may_by true due idle needs less both h = h
may_by false due true needs less both h = h
may_by false due false true less both h = absurd (false≢true h)
may_by false due false false false both h = refl
may_by false due false false true both h = absurd (false≢true (both refl))

-- one instant comes no later than another one, if there is that
abbrev IsNoLater : Option ℕ → Option ℕ → Type 0
IsNoLater first None = Unit {0}
IsNoLater None (Some u) = ⊥
IsNoLater (Some t) (Some u) = t ≤ u

sooner_no_later : (a b c d : Option ℕ) → IsNoLater a b → IsNoLater c d → IsNoLater (sooner a c) (sooner b d)
sooner_no_later a None c None left right = tt
sooner_no_later None None (Some v) (Some w) left right = right
sooner_no_later (Some t) None (Some v) (Some w) left right = omega arith
sooner_no_later (Some t) (Some u) None None left right = left
sooner_no_later (Some t) (Some u) (Some v) None left right = omega arith
sooner_no_later (Some t) (Some u) (Some v) (Some w) left right = omega arith
sooner_no_later a b None (Some w) left right = elim right [ ]
sooner_no_later None (Some u) c d left right = elim left [ ]

no_later_same : (a : Option ℕ) → IsNoLater a a
no_later_same None = tt
no_later_same (Some t) = le_refl t

-- the end of work that needs time comes no later if less time is enough
either : (idle less more : Bool) → (less ≡ true → more ≡ true) → (idle || less) ≡ true → (idle || more) ≡ true
either true less more both h = refl
either false less more both h = both h

settled_by : (idle work few less : Bool) → (less ≡ true → few ≡ true) → (idle || work || not few) ≡ true
    → (idle || work || not less) ≡ true
settled_by true work few less both h = refl
settled_by false true few less both h = refl
settled_by false false few false both h = refl
settled_by false false true true both h = absurd (false≢true h)
settled_by false false false true both h = absurd (false≢true (both refl))

module _ (now passed : ℕ) (ticks more : ℕ → ℕ) (less : (n : ℕ) → ticks n ≤ more n) where
  abbrev end_of : (ℕ → ℕ) → Option OpenWork → Option ℕ
  end_of needed begun =
      if is_within needed passed begun then option_map (λ (o : OpenWork). now + (needed o.work.amount - passed)) begun else None

  end_no_later : (begun : Option OpenWork) (alone : Bool) → (is_none begun && alone || is_within ticks passed begun) ≡ true
      → IsNoLater (end_of ticks begun) (end_of more begun)
  end_no_later None alone quiet = tt
  end_no_later (Some o) alone quiet = elim (cases_Bool (is_within more passed (Some o))) [
    | inl needs ↦ rw (quiet, needs) (let most = less o.work.amount in omega arith)
    | inr over ↦ rw over tt
  ]

instant_is : (n : ℕ) (found : Option ℕ) → is_instant n found ≡ true → found ≡ Some n
instant_is n None e = absurd (false≢true e)
instant_is n (Some t) e = ap Some (sym (eqb-true n t e))

module _ (pace other : Pace) (tighter : IsTighter pace other) (table : Table) (s : Paced) where
  needs_still : (core : ℕ) → needs_time pace.percent s core ≡ true → needs_time other.percent s core ≡ true
  needs_still = needs_less pace.percent other.percent tighter.percent s

  pub turn_still : (core : ℕ) → is_allowed other table s (Turn core) ≡ true → is_allowed pace table s (Turn core) ≡ true
  turn_still core allowed =
      let parts = and_parts (nat_lt core table.cores) (may_turn other table s core) allowed in
      and_from (nat_lt core table.cores) (may_turn pace table s core) parts.0
      (may_by (is_starting s) (is_some (due_call table s.situation core)) (is_idle s core) (needs_time other.percent s core)
      (needs_time pace.percent s core) (needs_still core) parts.1)

  quiet_still : (core : ℕ) → is_quiet pace.percent s core ≡ true → is_quiet other.percent s core ≡ true
  quiet_still core = either (is_idle s core) (needs_time pace.percent s core) (needs_time other.percent s core) (needs_still core)

  settled_still : (core : ℕ) → is_settled other s core ≡ true → is_settled pace s core ≡ true
  settled_still core =
      settled_by (is_idle s core) (is_at_work s core) (nat_lt (s.turns core) other.turns) (nat_lt (s.turns core) pace.turns)
      (λ few. lt-ltb (s.turns core) other.turns (lt_of_lt_of_le (ltb-true (s.turns core) pace.turns few) tighter.turns))

  ends_no_later : (n : ℕ) → all_cores (is_quiet pace.percent s) n ≡ true
      → IsNoLater (first_work_end pace.percent s n) (first_work_end other.percent s n)
  ends_no_later zero quiet = tt
  ends_no_later (suc n) quiet =
      let parts = and_parts (is_quiet pace.percent s n) (all_cores (is_quiet pace.percent s) n) quiet in
      sooner_no_later (work_end pace.percent s n) (work_end other.percent s n) _ _
      (end_no_later s.situation.roster.now (s.worked n) (least_ticks pace.percent) (least_ticks other.percent)
      (least_mono pace.percent other.percent tighter.percent) (s.situation.works n) (is_none (chosen s.situation.roster n)) parts.0)
      (ends_no_later n parts.1)

  moment_no_later : all_cores (is_quiet pace.percent s) table.cores ≡ true
      → IsNoLater (next_moment pace.percent table s) (next_moment other.percent table s)
  moment_no_later quiet =
      sooner_no_later (next_instant s.situation.roster) (next_instant s.situation.roster) _ _
      (no_later_same (next_instant s.situation.roster)) (ends_no_later table.cores quiet)

  -- a tick that all quiet cores leave is not longer
  quiet_tick : (first last : Option ℕ) → IsNoLater first last → (n : ℕ) → option_map (ticks_to s) last ≡ Some n
      → (m : ℕ) × (option_map (ticks_to s) first ≡ Some m) × (m ≤ n)
  quiet_tick first None before n e = absurd (none-some _ e)
  quiet_tick None (Some u) before n e = elim before [ ]
  quiet_tick (Some t) (Some u) before n e =
      let same : ticks_to s u ≡ n = same_Some _ _ e in
      (ticks_to s t, refl, omega arith)

  settled_within : (n : ℕ) → settled_tick other.percent table s ≡ Some n
      → (m : ℕ) × (settled_tick pace.percent table s ≡ Some m) × (m ≤ n)
  settled_within n e = elim (cases_Bool (all_cores (is_quiet pace.percent s) table.cores)) [
    | inl quiet ↦
        let quiet_other = all_also (is_quiet pace.percent s) (is_quiet other.percent s) table.cores quiet_still quiet in
        let length : option_map (ticks_to s) (next_moment other.percent table s) ≡ Some n = rw quiet_other at e in
        rw quiet (quiet_tick (next_moment pace.percent table s) (next_moment other.percent table s) (moment_no_later quiet) n length)
    | inr busy ↦ rw busy (1, refl, one_at_least (all_cores (is_quiet other.percent s) table.cores) (next_moment other.percent table s) n e)
  ]
    where
      one_at_least : (quiet : Bool) (moment : Option ℕ) (n : ℕ) → (if quiet then option_map (ticks_to s) moment else Some 1) ≡ Some n → 1 ≤ n
      one_at_least false moment n e = let same : 1 ≡ n = same_Some _ _ e in omega arith
      one_at_least true None n e = absurd (none-some _ e)
      one_at_least true (Some u) n e = let same : ticks_to s u ≡ n = same_Some _ _ e in omega arith

  settled_all : all_cores (is_settled other s) table.cores ≡ true → all_cores (is_settled pace s) table.cores ≡ true
  settled_all = all_also (is_settled other s) (is_settled pace s) table.cores settled_still

  -- a tick of the tighter pace comes once all cores are settled
  tick_settled : (n : ℕ) → is_allowed other table s (Tick n) ≡ true
      → (next_tick pace table s ≡ settled_tick pace.percent table s) × (settled_tick other.percent table s ≡ Some n)
  tick_settled n allowed = elim (cases_Bool (is_starting s)) [
    | inl starting ↦ absurd (false≢true (rw starting at allowed))
    | inr started ↦ elim (cases_Bool (all_cores (is_settled other s) table.cores)) [
      | inl all ↦
          let here : is_instant n (settled_tick other.percent table s) ≡ true = rw (started, all) at allowed in
          ((rw (started, settled_all all) refl), instant_is n (settled_tick other.percent table s) here)
      | inr some ↦ absurd (false≢true (rw (started, some) at allowed))
    ]
  ]

  pub tick_still : (n : ℕ) → is_allowed other table s (Tick n) ≡ true → MayTickWithin pace table s n
  tick_still n allowed =
      let settled = tick_settled n allowed in
      let within = settled_within n settled.1 in
      record {
        ticks = within.0;
        allowed = rw (settled.0, within.1, eq-eqb within.0 within.0 refl) refl;
        within = within.2;
      }

  -- a tick is as long if work takes as long
  pub same_tick : pace.percent ≡ other.percent → (n : ℕ) → is_allowed other table s (Tick n) ≡ true
      → is_allowed pace table s (Tick n) ≡ true
  same_tick same n allowed =
      let settled = tick_settled n allowed in
      rw (settled.0, same, settled.1, eq-eqb n n refl) refl

module _ (pace other : Pace) (tighter : IsTighter pace other) (same : pace.percent ≡ other.percent) (table : Table) where
  still : (s : Paced) (event : Event) → is_allowed other table s event ≡ true → is_allowed pace table s event ≡ true
  still s (Turn core) = turn_still pace other tighter table s core
  still s (Tick n) = same_tick pace other tighter table s same n

  pub keeps_still : (s : Paced) (events : List Event) → KeepsPace other table s events → KeepsPace pace table s events
  keeps_still s [] kept = tt
  keeps_still s (event ∷ events) kept = (still s event kept.0, keeps_still (paced_step table s event) events kept.1)
