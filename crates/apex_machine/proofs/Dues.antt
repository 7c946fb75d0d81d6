-- Laws of dues and deadlines: the next instant is the least of them. The first process that is due,
-- and the first one that misses a deadline, have the lowest number. Time that goes no further than
-- the next instant passes over none of them.
use Rattle.std.proofs.Common.{◌≡◌, ◌≢◌, ℕ, zero, suc, ◌+◌, ◌≤◌, ◌<◌, ◌⊎◌, inl, inr, Bool, true, false, not, min, List, [], ◌∷◌, length, get_or, position, Option, None, Some, option_map, refl, sym, ◌∙◌, ap, arith}
use Rattle.std.specs.List.{position_or_len}
use Rattle.std.proofs.lemmas.Bool.{eqb-true, eq-eqb, cases_lt, both_ways, lt-ltb, not-true}
use Rattle.std.proofs.lemmas.List.{get_or_past}
use Rattle.std.proofs.lemmas.List.Quantifiers.{position-Some}
use Rattle.std.proofs.lemmas.List.Sums.{prefix_len_passes}
use Rattle.std.proofs.lemmas.Option.{none-some, same_Some}
use Rattle.apex_machine.specs.Terms.{Record, Timeout}
use Rattle.apex_machine.specs.processes.Roster.{Roster, nobody, record_at}
use Rattle.apex_types.specs.declared.calls.Timeout.TheVariants.{Poll, Ticks, Infinite}
use Rattle.apex_machine.specs.processes.Dues.{sooner, earliest, next_instant, is_instant, is_due_at, is_missed_at, first_due, first_missed, due_after, IsAwaited, IsFrom, HasNoDueBelow, HasNoPastDue, HasNoDeadlineBelow, HasNoPastDeadline}
use Rattle.apex_machine.specs.processes.Periods.{deadline_from}
use Rattle.apex_machine.specs.Ticks.{not_beyond, tick_goal}

-- the sooner of two is no later than the one
sooner_than_one : (one other : Option ℕ) (u : ℕ) → one ≡ Some u → (t : ℕ) × (sooner one other ≡ Some t) × (t ≤ u)
sooner_than_one None other u e = absurd (none-some u e)
sooner_than_one (Some s) None u e = (s, refl, omega (arith, same_Some s u e))
sooner_than_one (Some s) (Some t) u e = (min s t, refl, omega (arith, same_Some s u e))

-- nor than the other
sooner_than_other : (one other : Option ℕ) (u : ℕ) → other ≡ Some u → (t : ℕ) × (sooner one other ≡ Some t) × (t ≤ u)
sooner_than_other one None u e = absurd (none-some u e)
sooner_than_other None (Some t) u e = (t, refl, omega (arith, same_Some t u e))
sooner_than_other (Some s) (Some t) u e = (min s t, refl, omega (arith, same_Some t u e))

-- it is one of the two
sooner_among : (one other : Option ℕ) (t : ℕ) → sooner one other ≡ Some t → (one ≡ Some t) ⊎ (other ≡ Some t)
sooner_among None other t e = inr e
sooner_among (Some s) None t e = inl e
sooner_among (Some s) (Some u) t e =
    let least : min s u ≡ t = same_Some _ _ e in
    elim (cases_lt s u) [
      | inl below ↦ let here : s ≡ t = omega arith in inl (ap Some here)
      | inr above ↦ let here : u ≡ t = omega arith in inr (ap Some here)
    ]

-- if an instant is awaited there is an earliest one, and it is no later
pub earliest_is_least : (rs : List Record) (p u : ℕ) → IsAwaited (get_or rs p nobody) u → (t : ℕ) × (earliest rs ≡ Some t) × (t ≤ u)
earliest_is_least [] p u (inl e) = absurd (none-some u e)
earliest_is_least [] p u (inr e) = absurd (none-some u e)
earliest_is_least (r ∷ rs) zero u (inl e) = sooner_than_one r.due (sooner r.deadline (earliest rs)) u e
earliest_is_least (r ∷ rs) zero u (inr e) =
    let one = sooner_than_one r.deadline (earliest rs) u e in
    let both = sooner_than_other r.due (sooner r.deadline (earliest rs)) one.0 one.1 in
    (both.0, both.1, omega (arith, both.2, one.2))
earliest_is_least (r ∷ rs) (suc p) u e =
    let rest = earliest_is_least rs p u e in
    let one = sooner_than_other r.deadline (earliest rs) rest.0 rest.1 in
    let both = sooner_than_other r.due (sooner r.deadline (earliest rs)) one.0 one.1 in
    (both.0, both.1, omega (arith, both.2, one.2, rest.2))

-- the earliest instant is one that a process awaits
pub earliest_among : (rs : List Record) (t : ℕ) → earliest rs ≡ Some t → (p : ℕ) × (p < length rs) × IsAwaited (get_or rs p nobody) t
earliest_among [] t e = absurd (none-some t e)
earliest_among (r ∷ rs) t e =
    elim (sooner_among r.due (sooner r.deadline (earliest rs)) t e) [
      | inl here ↦ (0, omega arith, inl here)
      | inr others ↦ elim (sooner_among r.deadline (earliest rs) t others) [
        | inl here ↦ (0, omega arith, inr here)
        | inr there ↦ let rest = earliest_among rs t there in (suc rest.0, omega (arith, rest.1), rest.2)
      ]
    ]

-- no instant that is awaited is below the earliest
pub earliest_below : (rs : List Record) (t : ℕ) → earliest rs ≡ Some t → (p u : ℕ) → IsAwaited (get_or rs p nobody) u → t ≤ u
earliest_below rs t e p u awaited =
    let least = earliest_is_least rs p u awaited in
    omega (arith, least.2, same_Some t least.0 (sym e ∙ least.1))

-- if there is no earliest instant, none is awaited
pub earliest_none : (rs : List Record) → earliest rs ≡ None → (p u : ℕ) → IsAwaited (get_or rs p nobody) u → ⊥
earliest_none rs e p u awaited =
    let least = earliest_is_least rs p u awaited in none-some least.0 (sym e ∙ least.1)

-- so such an instant is none
pub none_awaited : (instant : Option ℕ) → ((u : ℕ) → instant ≡ Some u → ⊥) → instant ≡ None
none_awaited None never = refl
none_awaited (Some u) never = absurd (never u refl)

-- the next instant is not past
pub next_not_past : (roster : Roster) → HasNoPastDue roster → HasNoPastDeadline roster
    → (t : ℕ) → next_instant roster ≡ Some t → roster.now ≤ t
next_not_past roster dues deadlines t e =
    let found = earliest_among roster.records t e in
    elim found.2 [ inl due ↦ dues found.0 t due | inr deadline ↦ deadlines found.0 t deadline ]

-- time that goes no further than the next instant, if there is one, passes over nothing that is
-- awaited
pub advanced_not_past : (roster : Roster) (t : ℕ) → ((next : ℕ) → next_instant roster ≡ Some next → t ≤ next)
    → (p u : ℕ) → IsAwaited (record_at roster p) u → t ≤ u
advanced_not_past roster t within p u awaited =
    let least = earliest_is_least roster.records p u awaited in omega (arith, least.2, within least.0 least.1)

pub advanced_before_dues : (roster : Roster) (t : ℕ) → ((next : ℕ) → next_instant roster ≡ Some next → t ≤ next) → HasNoDueBelow roster t
advanced_before_dues roster t within p u due = advanced_not_past roster t within p u (inl due)

pub advanced_before_deadlines : (roster : Roster) (t : ℕ) → ((next : ℕ) → next_instant roster ≡ Some next → t ≤ next) → HasNoDeadlineBelow roster t
advanced_before_deadlines roster t within p u deadline = advanced_not_past roster t within p u (inr deadline)

-- the smaller of an instant and the next one
at_most_forward : (now t : ℕ) (next : Option ℕ) → now ≤ t → ((u : ℕ) → next ≡ Some u → now ≤ u) → now ≤ not_beyond t next
at_most_forward now t None here later = here
at_most_forward now t (Some u) here later = omega (arith, later u refl)

at_most_near : (t : ℕ) (next : Option ℕ) → not_beyond t next ≤ t
at_most_near t None = omega arith
at_most_near t (Some u) = omega arith

at_most_next : (t : ℕ) (next : Option ℕ) (u : ℕ) → next ≡ Some u → not_beyond t next ≤ u
at_most_next t None u e = absurd (none-some u e)
at_most_next t (Some s) u e = omega (arith, same_Some s u e)

-- a tick never goes back
pub goal_forward : (roster : Roster) (n : ℕ) → HasNoPastDue roster → HasNoPastDeadline roster → roster.now ≤ tick_goal roster n
goal_forward roster n dues deadlines =
    at_most_forward roster.now (roster.now + n) (next_instant roster) (omega arith) (next_not_past roster dues deadlines)

-- a tick of n goes n on at the most
pub goal_near : (roster : Roster) (n : ℕ) → tick_goal roster n ≤ roster.now + n
goal_near roster n = at_most_near (roster.now + n) (next_instant roster)

-- a tick passes over no due and no deadline
pub goal_before_dues : (roster : Roster) (n : ℕ) → HasNoDueBelow roster (tick_goal roster n)
goal_before_dues roster n =
    advanced_before_dues roster (tick_goal roster n) (at_most_next (roster.now + n) (next_instant roster))

pub goal_before_deadlines : (roster : Roster) (n : ℕ) → HasNoDeadlineBelow roster (tick_goal roster n)
goal_before_deadlines roster n =
    advanced_before_deadlines roster (tick_goal roster n) (at_most_next (roster.now + n) (next_instant roster))

-- an instant from now on
pub from_now : (now n : ℕ) → IsFrom now (Some (now + n))
from_now now n t e = omega (arith, same_Some _ _ e)

-- a wait that begins now ends no sooner
pub due_later : (roster : Roster) (timeout : Timeout) → IsFrom roster.now (due_after roster timeout)
due_later roster Poll t e = absurd (none-some t e)
due_later roster (Ticks n) t e = from_now roster.now n t e
due_later roster Infinite t e = absurd (none-some t e)

-- a deadline that begins to run now
pub deadline_later : (now : ℕ) (r : Record) → IsFrom now (deadline_from now r)
deadline_later now r = later r.attributes.capacity where
  later : (capacity : Option ℕ) → IsFrom now (option_map (λ ticks. now + ticks) capacity)
  later None t e = absurd (none-some t e)
  later (Some ticks) t e = from_now now ticks t e

-- an instant that is this one
instant_of_test : (t : ℕ) (instant : Option ℕ) → is_instant t instant ≡ true → instant ≡ Some t
instant_of_test t None e = cc
instant_of_test t (Some u) e = ap Some (sym (eqb-true t u e))

test_of_instant : (t : ℕ) (instant : Option ℕ) → instant ≡ Some t → is_instant t instant ≡ true
test_of_instant t instant e = rw e (eq-eqb t t refl)

-- if there is no first record that passes, no record passes
pub position_none : (passes : Record → Bool) (rs : List Record) → position passes rs ≡ None
    → (q : ℕ) → q < length rs → passes (get_or rs q nobody) ≡ false
position_none passes rs e q within =
    elim (cases_lt (position_or_len passes rs) (length rs)) [
      | inl below ↦ absurd (none-some _ (sym (rw (lt-ltb _ _ below) at e)))
      | inr beyond ↦ not-true _ (prefix_len_passes (λ r. not (passes r)) rs q nobody (omega (arith, within, beyond)))
    ]

-- the first of the processes that have one of two instants now, the due or the deadline
module _ (instant_of : Record → Option ℕ) (of_nobody : instant_of nobody ≡ None) (t : ℕ) (rs : List Record) where
  abbrev is_then : Record → Bool
  is_then r = is_instant t (instant_of r)

  then_now : (p : ℕ) → position is_then rs ≡ Some p → instant_of (get_or rs p nobody) ≡ Some t
  then_now p e = instant_of_test t (instant_of (get_or rs p nobody)) (position-Some is_then rs p nobody e).1

  then_within : (p : ℕ) → position is_then rs ≡ Some p → p < length rs
  then_within p e = (position-Some is_then rs p nobody e).0

  then_lowest : (p q : ℕ) → position is_then rs ≡ Some p → instant_of (get_or rs q nobody) ≡ Some t → p ≤ q
  then_lowest p q e here =
      elim (cases_lt q p) [
        | inl below ↦
            absurd (both_ways _ ((position-Some is_then rs p nobody e).2 q below) (test_of_instant t (instant_of (get_or rs q nobody)) here))
        | inr above ↦ above
      ]

  -- a process that has such an instant is one of the records
  has_within : (q u : ℕ) → instant_of (get_or rs q nobody) ≡ Some u → q < length rs
  has_within q u here =
      elim (cases_lt q (length rs)) [
        | inl within ↦ within
        | inr past ↦ absurd (none-some u (sym of_nobody ∙ sym (ap instant_of (get_or_past rs q nobody past)) ∙ here))
      ]

  then_none : position is_then rs ≡ None → (q : ℕ) → instant_of (get_or rs q nobody) ≢ Some t
  then_none e q here =
      both_ways _ (position_none is_then rs e q (has_within q t here)) (test_of_instant t (instant_of (get_or rs q nobody)) here)

abbrev due_of : Record → Option ℕ
due_of r = r.due

abbrev deadline_of : Record → Option ℕ
deadline_of r = r.deadline

-- the first process that is due is due now
pub first_due_now : (roster : Roster) (p : ℕ) → first_due roster ≡ Some p → (record_at roster p).due ≡ Some roster.now
unfolding is_due_at
first_due_now roster p e = then_now due_of refl roster.now roster.records p e

-- the first process that is due is one of the processes
pub first_due_within : (roster : Roster) (p : ℕ) → first_due roster ≡ Some p → p < length roster.records
unfolding is_due_at
first_due_within roster p e = then_within due_of refl roster.now roster.records p e

-- no process that is due now has a lower number than the first one
pub first_due_lowest : (roster : Roster) (p q : ℕ) → first_due roster ≡ Some p → (record_at roster q).due ≡ Some roster.now → p ≤ q
unfolding is_due_at
first_due_lowest roster p q e due = then_lowest due_of refl roster.now roster.records p q e due

-- if no process is due first, none is due now
pub first_due_none : (roster : Roster) → first_due roster ≡ None → (q : ℕ) → (record_at roster q).due ≢ Some roster.now
unfolding is_due_at
first_due_none roster e q = then_none due_of refl roster.now roster.records e q

-- the same of deadlines: the first process that misses one misses it now, is one of the processes,
-- and has the lowest number; if there is none, no deadline is now
pub first_missed_now : (roster : Roster) (p : ℕ) → first_missed roster ≡ Some p → (record_at roster p).deadline ≡ Some roster.now
unfolding is_missed_at
first_missed_now roster p e = then_now deadline_of refl roster.now roster.records p e

pub first_missed_within : (roster : Roster) (p : ℕ) → first_missed roster ≡ Some p → p < length roster.records
unfolding is_missed_at
first_missed_within roster p e = then_within deadline_of refl roster.now roster.records p e

pub first_missed_lowest : (roster : Roster) (p q : ℕ) → first_missed roster ≡ Some p → (record_at roster q).deadline ≡ Some roster.now → p ≤ q
unfolding is_missed_at
first_missed_lowest roster p q e deadline = then_lowest deadline_of refl roster.now roster.records p q e deadline

pub first_missed_none : (roster : Roster) → first_missed roster ≡ None → (q : ℕ) → (record_at roster q).deadline ≢ Some roster.now
unfolding is_missed_at
first_missed_none roster e q = then_none deadline_of refl roster.now roster.records e q
