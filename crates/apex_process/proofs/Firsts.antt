-- The first process of a line is the first that is due, and the sooner first of the two lines has
-- the next instant.
use Rattle.std.proofs.Common.{◌≡◌, ◌≢◌, ℕ, ◌<◌, ◌≤◌, length, Option, None, Some, inl, inr, min, refl, ap, sym, ◌∙◌, arith}
use Rattle.apex_machine.specs.processes.Dues.{earliest, first_due, first_missed, sooner}
use Rattle.apex_machine.specs.processes.Roster.{Roster, record_at}
use Rattle.apex_machine.proofs.Dues.{earliest_among, earliest_below, earliest_none, first_due_now, first_due_lowest, first_due_none, first_missed_now, first_missed_lowest, first_missed_none}
use Rattle.apex_timeouts.specs.Timeline.{Times, due_at, instant_on, next_of, without_due_at, IsReset, IsTimed}
use Rattle.apex_timeouts.proofs.Fronts.{next_among, next_least, next_none, due_among, due_lowest, due_none}
use Rattle.apex_timeouts.proofs.Instants.{reset_none}
use Rattle.apex_process.specs.Timed.{deadline_of, due_of, AreTimers, IsLineOf}

-- a line of instants, none of which is past
module _ (now many : ℕ) (instants : ℕ → Option ℕ) (times : Times) (line : IsLineOf now many instants times) (timed : IsTimed times) where
  not_past : (r u : ℕ) → instant_on times r ≡ Some u → now ≤ u
  not_past r u on = line.later r u (sym (line.each r) ∙ on)

  -- the process of the lowest number whose instant is now
  lowest_cases : (one other : Option ℕ) → due_at times now ≡ one
      → ((p : ℕ) → other ≡ Some p → instants p ≡ Some now) → ((p q : ℕ) → other ≡ Some p → instants q ≡ Some now → p ≤ q)
      → (other ≡ None → (q : ℕ) → instants q ≢ Some now) → one ≡ other
  lowest_cases None None is at lowest none = refl
  lowest_cases None (Some p) is at lowest none = absurd (due_none times timed.ordered now p not_past is (line.each p ∙ at p refl))
  lowest_cases (Some p) None is at lowest none = absurd (none refl p (sym (line.each p) ∙ due_among times timed.ordered now p is))
  lowest_cases (Some p) (Some q) is at lowest none =
      let below : p ≤ q = due_lowest times timed.ordered now p q is (line.each q ∙ at q refl) in
      let above : q ≤ p = lowest q p refl (sym (line.each p) ∙ due_among times timed.ordered now p is) in
      let same : p ≡ q = omega (arith, below, above) in
      ap Some same

pub due_is : (roster : Roster) (dues deadlines : Times) → AreTimers roster dues deadlines → IsTimed dues → due_at dues roster.now ≡ first_due roster
due_is roster dues deadlines timers timed =
    lowest_cases roster.now _ (due_of roster) dues timers.dues timed _ (first_due roster) refl
    (first_due_now roster) (first_due_lowest roster) (first_due_none roster)

pub missed_is : (roster : Roster) (dues deadlines : Times) → AreTimers roster dues deadlines → IsTimed deadlines → due_at deadlines roster.now ≡ first_missed roster
missed_is roster dues deadlines timers timed =
    lowest_cases roster.now _ (deadline_of roster) deadlines timers.deadlines timed _ (first_missed roster) refl
    (first_missed_now roster) (first_missed_lowest roster) (first_missed_none roster)

-- the soonest of both lines
module _ (roster : Roster) (dues deadlines : Times) (timers : AreTimers roster dues deadlines) (timed : IsTimed dues) (timed' : IsTimed deadlines) where
  due_among_all : (t : ℕ) → next_of dues ≡ Some t → (p : ℕ) × ((record_at roster p).due ≡ Some t)
  due_among_all t e = let found = next_among dues timed.ordered t e in (found.0, sym (timers.dues.each found.0) ∙ found.1)

  deadline_among_all : (t : ℕ) → next_of deadlines ≡ Some t → (p : ℕ) × ((record_at roster p).deadline ≡ Some t)
  deadline_among_all t e = let found = next_among deadlines timed'.ordered t e in (found.0, sym (timers.deadlines.each found.0) ∙ found.1)

  -- the earliest of all is no later than each of the two
  not_before_dues : (s t : ℕ) → next_of dues ≡ Some s → earliest roster.records ≡ Some t → t ≤ s
  not_before_dues s t e f = let found = due_among_all s e in earliest_below roster.records t f found.0 s (inl found.1)

  not_before_deadlines : (s t : ℕ) → next_of deadlines ≡ Some s → earliest roster.records ≡ Some t → t ≤ s
  not_before_deadlines s t e f = let found = deadline_among_all s e in earliest_below roster.records t f found.0 s (inr found.1)

  next_cases : (one other all : Option ℕ) → next_of dues ≡ one → next_of deadlines ≡ other → earliest roster.records ≡ all → sooner one other ≡ all
  next_cases None None None e f g = refl
  next_cases None None (Some t) e f g =
      let found = earliest_among roster.records t g in
      elim found.2 [
        | inl due ↦ absurd (next_none dues timed.ordered found.0 t e (timers.dues.each found.0 ∙ due))
        | inr deadline ↦ absurd (next_none deadlines timed'.ordered found.0 t f (timers.deadlines.each found.0 ∙ deadline))
      ]
  next_cases (Some s) other None e f g = let found = due_among_all s e in absurd (earliest_none roster.records g found.0 s (inl found.1))
  next_cases None (Some u) None e f g = let found = deadline_among_all u f in absurd (earliest_none roster.records g found.0 u (inr found.1))
  next_cases (Some s) None (Some t) e f g =
      let found = earliest_among roster.records t g in
      let above = not_before_dues s t e g in
      elim found.2 [
        | inl due ↦
            let below = next_least dues timed.ordered s found.0 t e (timers.dues.each found.0 ∙ due) in
            let same : s ≡ t = omega (arith, above, below) in
            ap Some same
        | inr deadline ↦ absurd (next_none deadlines timed'.ordered found.0 t f (timers.deadlines.each found.0 ∙ deadline))
      ]
  next_cases None (Some u) (Some t) e f g =
      let found = earliest_among roster.records t g in
      let above = not_before_deadlines u t f g in
      elim found.2 [
        | inl due ↦ absurd (next_none dues timed.ordered found.0 t e (timers.dues.each found.0 ∙ due))
        | inr deadline ↦
            let below = next_least deadlines timed'.ordered u found.0 t f (timers.deadlines.each found.0 ∙ deadline) in
            let same : u ≡ t = omega (arith, above, below) in
            ap Some same
      ]
  next_cases (Some s) (Some u) (Some t) e f g =
      let found = earliest_among roster.records t g in
      let above = not_before_dues s t e g in
      let above' = not_before_deadlines u t f g in
      elim found.2 [
        | inl due ↦
            let below = next_least dues timed.ordered s found.0 t e (timers.dues.each found.0 ∙ due) in
            let same : min s u ≡ t = omega (arith, above, above', below) in
            ap Some same
        | inr deadline ↦
            let below = next_least deadlines timed'.ordered u found.0 t f (timers.deadlines.each found.0 ∙ deadline) in
            let same : min s u ≡ t = omega (arith, above, above', below) in
            ap Some same
      ]

  pub next_is : sooner (next_of dues) (next_of deadlines) ≡ earliest roster.records
  next_is = next_cases _ _ _ refl refl refl

-- a process that was due has left the line
pub taken_reset : (times news : Times) (p t : ℕ) → IsTimed times → p < length times.instants → due_at times t ≡ Some p → news ≡ without_due_at times t → IsReset times news p None
taken_reset times news p t timed known is line = rw (line, is) (reset_none times p known timed.distinct)

-- no process is taken off a line whose first one is not due
pub none_taken : (times news : Times) (t : ℕ) → due_at times t ≡ None → news ≡ without_due_at times t → news ≡ times
none_taken times news t none line = rw none at line
