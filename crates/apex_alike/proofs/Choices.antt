-- Rosters that are alike choose alike.
use Rattle.std.proofs.Common.{◌≡◌, ℕ, ◌+◌, ◌<◌, ◌==◌, List, [], ◌∷◌, length, Option, None, Some, min, inl, inr, refl, ◌∙◌, ap, arith}
use Rattle.apex_laws.specs.Terms.{Discipline, Mode, Queue, Record}
use Rattle.apex_types.specs.declared.modes.Discipline.TheVariants.{Fifo, Priority}
use Rattle.apex_machine.specs.processes.Dues.{earliest, first_due, first_missed, is_due_at, is_instant, is_missed_at, next_instant, sooner}
use Rattle.apex_machine.specs.processes.Owners.{owner, owns}
use Rattle.apex_machine.specs.processes.Roster.{Roster, record_at}
use Rattle.apex_machine.specs.processes.Running.{chosen, current_priority, is_before, runs_on}
use Rattle.apex_machine.specs.processes.Waiters.{discipline_of, first_waiter, waiter_count, waits_before, waits_in}
use Rattle.apex_machine.proofs.Orders.{before_strict, waits_strict}
use Rattle.apex_alike.specs.Alike.{AreAlike, AreRivals, IsLater, later}
use Rattle.apex_alike.specs.Laws.{AlikeChooseAlike}
use Rattle.apex_alike.proofs.Lists.{Each, each_of, same_count, same_least, same_position}

-- a test that looks neither at stamps nor at instants
pub same_waits : {d now : ℕ} (queue : Queue) (r s : Record) → IsLater d now r s → waits_in queue s ≡ waits_in queue r
unfolding waits_in
same_waits queue r s same = ap (waits_in queue) same.is

pub same_runs : {d now : ℕ} (mode : Mode) (core : ℕ) (r s : Record) → IsLater d now r s → runs_on mode core s ≡ runs_on mode core r
unfolding runs_on
same_runs mode core r s same = ap (runs_on mode core) same.is

pub same_priority : {d now : ℕ} (r s : Record) → IsLater d now r s → current_priority s ≡ current_priority r
same_priority r s same = ap current_priority same.is

-- instants
same_shift : (d t u : ℕ) → ((t + d) == (u + d)) ≡ (t == u)
same_shift d t u = grind arith

pub same_instant : (d t : ℕ) (instant : Option ℕ) → is_instant (t + d) (later d instant) ≡ is_instant t instant
same_instant d t None = refl
same_instant d t (Some u) = same_shift d t u

pub same_due : {now : ℕ} (d t : ℕ) (r s : Record) → IsLater d now r s → is_due_at (t + d) s ≡ is_due_at t r
unfolding is_due_at
same_due d t r s same = ap (λ (x : Record). is_instant (t + d) x.due) same.is ∙ same_instant d t r.due

pub same_missed : {now : ℕ} (d t : ℕ) (r s : Record) → IsLater d now r s → is_missed_at (t + d) s ≡ is_missed_at t r
unfolding is_missed_at
same_missed d t r s same = ap (λ (x : Record). is_instant (t + d) x.deadline) same.is ∙ same_instant d t r.deadline

same_sooner : (d : ℕ) (one other : Option ℕ) → sooner (later d one) (later d other) ≡ later d (sooner one other)
same_sooner d None other = refl
same_sooner d (Some t) None = refl
same_sooner d (Some t) (Some u) = let e : min (t + d) (u + d) ≡ min t u + d = omega arith in ap Some e

same_earliest : (d now : ℕ) (rs ss : List Record) → Each (IsLater d now) rs ss → earliest ss ≡ later d (earliest rs)
same_earliest d now [] [] all = refl
same_earliest d now [] (s ∷ ss) all = absurd all
same_earliest d now (r ∷ rs) [] all = absurd all
same_earliest d now (r ∷ rs) (s ∷ ss) all =
    let due : s.due ≡ later d r.due = ap (λ (x : Record). x.due) all.0.is in
    let deadline : s.deadline ≡ later d r.deadline = ap (λ (x : Record). x.deadline) all.0.is in
    rw (due, deadline, same_earliest d now rs ss all.1, same_sooner d r.deadline (earliest rs)) (same_sooner d r.due (sooner r.deadline (earliest rs)))

module _ {d : ℕ} {first second : Roster} (alike : AreAlike d first second) where
  pub all : Each (IsLater d first.now) first.records second.records
  all = each_of (IsLater d first.now) first.records second.records alike.many alike.each

  -- the order of current priorities, and then of stamps
  same_before : (p q : ℕ) → p < length first.records → q < length first.records → AreRivals first.mode (record_at first p) (record_at first q)
      → is_before (record_at second p) (record_at second q) ≡ is_before (record_at first p) (record_at first q)
  same_before p q here there rivals =
      rw (same_priority (record_at first p) (record_at second p) (alike.each p), same_priority (record_at first q) (record_at second q) (alike.each q), alike.order p q here there rivals) refl

  same_order : (discipline : Discipline) (p q : ℕ) → p < length first.records → q < length first.records → AreRivals first.mode (record_at first p) (record_at first q)
      → waits_before discipline (record_at second p) (record_at second q) ≡ waits_before discipline (record_at first p) (record_at first q)
  same_order Fifo p q here there rivals = alike.order p q here there rivals
  same_order Priority p q here there rivals = same_before p q here there rivals

  pub same_chosen : (core : ℕ) → chosen second core ≡ chosen first core
  same_chosen core =
      same_least (runs_on first.mode core) (runs_on second.mode core) is_before is_before first.records second.records alike.many
      (λ q. ap (λ m. runs_on m core (record_at second q)) alike.mode ∙ same_runs first.mode core (record_at first q) (record_at second q) (alike.each q))
      (λ p q here there one other. same_before p q here there (inl (core, one, other))) before_strict

  pub same_discipline : (queue : Queue) → discipline_of second queue ≡ discipline_of first queue
  same_discipline queue = let e : second.disciplines ≡ first.disciplines = alike.disciplines in by_disciplines e queue where
    by_disciplines : second.disciplines ≡ first.disciplines → (queue : Queue) → discipline_of second queue ≡ discipline_of first queue
    by_disciplines e queue = ap (λ x. discipline_of (record first { disciplines = x }) queue) e

  pub same_waiter : (queue : Queue) → first_waiter second queue ≡ first_waiter first queue
  same_waiter queue =
      let discipline = discipline_of first queue in
      same_least (waits_in queue) (waits_in queue) (waits_before discipline) (waits_before (discipline_of second queue)) first.records second.records alike.many
      (λ q. same_waits queue (record_at first q) (record_at second q) (alike.each q))
      (λ p q here there one other. rw (same_discipline queue) (same_order discipline p q here there (inr (queue, one, other))))
      (waits_strict discipline)

  pub same_waiters : (queue : Queue) → waiter_count second queue ≡ waiter_count first queue
  same_waiters queue = same_count (IsLater d first.now) (waits_in queue) (waits_in queue) (same_waits queue) first.records second.records all

  pub same_owner : (m : ℕ) → owner second m ≡ owner first m
  same_owner m =
      same_position (IsLater d first.now) (owns m) (owns m) (λ r s same. ap (owns m) same.is) first.records second.records alike.many all

  pub same_first_due : first_due second ≡ first_due first
  same_first_due =
      rw alike.time (same_position (IsLater d first.now) (is_due_at first.now) (is_due_at (first.now + d)) (same_due d first.now) first.records second.records alike.many all)

  pub same_first_missed : first_missed second ≡ first_missed first
  same_first_missed =
      rw alike.time (same_position (IsLater d first.now) (is_missed_at first.now) (is_missed_at (first.now + d)) (same_missed d first.now) first.records second.records alike.many all)

  pub same_next : next_instant second ≡ later d (next_instant first)
  same_next = same_earliest d first.now first.records second.records all

pub choose_alike : AlikeChooseAlike
choose_alike d first second alike = record {
  chosen = same_chosen alike;
  waiter = same_waiter alike;
  count = same_waiters alike;
  owner = same_owner alike;
  due = same_first_due alike;
  missed = same_first_missed alike;
  next = same_next alike;
}
