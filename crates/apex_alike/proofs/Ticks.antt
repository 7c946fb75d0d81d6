-- A tick keeps rosters alike.
use Rattle.std.proofs.Common.{◌≡◌, ℕ, ◌+◌, ◌<◌, true, false, [], ◌∷◌, length, Option, None, Some, refl, sym, ◌∙◌, ap, subst, arith}
use Rattle.std.proofs.lemmas.Bool.{both_ways}
use Rattle.std.proofs.lemmas.List.{length-set}
use Rattle.std.proofs.lemmas.Option.{none-some}
use Rattle.apex_laws.specs.Terms.{DeadlineType, Record, Wait}
use Rattle.apex_types.specs.declared.modes.DeadlineType.TheVariants.{Soft, Hard}
use Rattle.apex_types.specs.declared.entries.Notice.TheVariants.{Missed}
use Rattle.apex_types.specs.declared.entries.ReturnCode.TheVariants.{NoError, TimedOut}
use Rattle.apex_machine.specs.declared.records.Wait.TheVariants as wait
use Rattle.apex_machine.specs.processes.Dues.{HasNoPastDeadline, HasNoPastDue, first_due, first_missed, next_instant}
use Rattle.apex_machine.specs.processes.Periods.{awaits_first}
use Rattle.apex_machine.specs.processes.Roster.{Roster, record_at}
use Rattle.apex_machine.specs.processes.Stamps as stamps
use Rattle.apex_machine.specs.services.InTurn.{behind}
use Rattle.apex_machine.specs.Ticks.{begun, miss, not_beyond, pass_time, released, serve_deadlines, serve_due, serve_dues, serve_instant, serve_missed, tick_goal, wait_over}
use Rattle.apex_machine.proofs.Dues.{goal_forward, first_due_now, first_due_within, first_missed_within}
use Rattle.apex_machine.proofs.Rosters.{at_record}
use Rattle.apex_alike.specs.Alike.{AreAlike, AreAlikeChanges, awaits_normal, later}
use Rattle.apex_alike.proofs.Choices.{same_first_due, same_first_missed, same_next}
use Rattle.apex_alike.proofs.Loops.{alike_followed, alike_halted, alike_in_turn, alike_unchanged, alike_woken}
use Rattle.apex_alike.proofs.Stamps.{alike_advance, alike_begin, alike_release, alike_set_deadline, alike_without_due}

module _ {d : ℕ} {first second : Roster} (alike : AreAlike d first second) (p : ℕ) (known : p < length first.records) where
  pub alike_released : AreAlikeChanges d (released first p) (released second p)
  alike_released = record { rosters = alike_release alike p known; notices = refl }

  pub alike_begun : (delay : ℕ) → AreAlikeChanges d (begun first p delay) (begun second p delay)
  alike_begun delay = record { rosters = alike_begin alike p known delay; notices = refl }

  -- the wait is over of a process that has been released, or waits for its start
  alike_over : (waits : Option Wait) → (record_at first p).wait ≡ waits → (awaits_normal waits ≡ false)
      → AreAlikeChanges d (wait_over first p waits) (wait_over second p waits)
  alike_over None is late = alike_woken alike p known TimedOut (ap awaits_first is)
  alike_over (Some wait.Time) is late = alike_woken alike p known NoError (ap awaits_first is)
  alike_over (Some wait.Start) is late = alike_released
  alike_over (Some wait.Period) is late = alike_released
  alike_over (Some (wait.Normal delay)) is late = absurd (both_ways _ late refl)
  alike_over (Some (wait.Semaphore s)) is late = alike_woken alike p known TimedOut (ap awaits_first is)
  alike_over (Some (wait.Receive b)) is late = alike_woken alike p known TimedOut (ap awaits_first is)
  alike_over (Some (wait.Send b message)) is late = alike_woken alike p known TimedOut (ap awaits_first is)
  alike_over (Some (wait.Blackboard b)) is late = alike_woken alike p known TimedOut (ap awaits_first is)
  alike_over (Some (wait.EventFlag e)) is late = alike_woken alike p known TimedOut (ap awaits_first is)
  alike_over (Some (wait.Mutex m)) is late = alike_woken alike p known TimedOut (ap awaits_first is)

same_not_beyond : (d t : ℕ) (next : Option ℕ) → not_beyond (t + d) (later d next) ≡ not_beyond t next + d
same_not_beyond d t None = refl
same_not_beyond d t (Some u) = omega arith

-- a process with a due does not wait for NORMAL
not_normal : (waits : Option Wait) (due : Option ℕ) (t : ℕ) → due ≡ Some t → (awaits_normal waits ≡ true → due ≡ None)
    → awaits_normal waits ≡ false
not_normal (Some (wait.Normal delay)) due t is undue = absurd (none-some t (sym (undue refl) ∙ is))
not_normal (Some _) due t is undue = refl
not_normal None due t is undue = refl

module _ {d : ℕ} where
  alike_serve_due : (first second : Roster) (alike : AreAlike d first second) (p : ℕ) → first_due first ≡ Some p
      → AreAlikeChanges d (serve_due first p) (serve_due second p)
  alike_serve_due first second alike p is =
      let known = first_due_within first p is in
      let r : Record = record (record_at first p) { due = None } in
      let same : (record_at second p).wait ≡ (record_at first p).wait = ap (λ (x : Record). x.wait) (alike.each p).is in
      subst (λ (w : Option Wait). AreAlikeChanges d (serve_due first p) (wait_over (stamps.without_due second p) p w)) (sym same)
      (alike_over (alike_without_due alike p known) p (rw (length-set first.records p r) known) (record_at first p).wait
      (ap (λ (x : Record). x.wait) (at_record first p known r))
      (not_normal (record_at first p).wait (record_at first p).due first.now (first_due_now first p is) (alike.each p).undue))

  alike_dues : {first second : Roster} → AreAlike d first second → AreAlikeChanges d (serve_dues first) (serve_dues second)
  alike_dues {first} {second} alike =
      rw alike.many
      (alike_in_turn {d = d} first_due serve_due (λ one other a. same_first_due a) alike_serve_due (length first.records) first second alike)

  alike_miss : {first second : Roster} (alike : AreAlike d first second) (p : ℕ) → p < length first.records → (kind : DeadlineType)
      → AreAlikeChanges d (miss first p kind) (miss second p kind)
  alike_miss alike p known Soft = alike_unchanged alike
  alike_miss alike p known Hard = alike_halted alike p known

  alike_serve_missed : (first second : Roster) (alike : AreAlike d first second) (p : ℕ) → first_missed first ≡ Some p
      → AreAlikeChanges d (serve_missed first p) (serve_missed second p)
  alike_serve_missed first second alike p is =
      let known = first_missed_within first p is in
      let r : Record = record (record_at first p) { deadline = None } in
      let kind = (record_at first p).attributes.deadline in
      let missed = alike_miss (alike_set_deadline alike p known None None refl) p (rw (length-set first.records p r) known) kind in
      let same : (record_at second p).attributes.deadline ≡ kind = ap (λ (x : Record). x.attributes.deadline) (alike.each p).is in
      subst (λ (k : DeadlineType). AreAlikeChanges d (serve_missed first p) (behind (Missed p k ∷ []) (miss (stamps.set_deadline second p None) p k))) (sym same)
      (record { rosters = missed.rosters; notices = ap (λ n. Missed p kind ∷ n) missed.notices })

  alike_deadlines : {first second : Roster} → AreAlike d first second → AreAlikeChanges d (serve_deadlines first) (serve_deadlines second)
  alike_deadlines {first} {second} alike =
      rw alike.many
      (alike_in_turn {d = d} first_missed serve_missed (λ one other a. same_first_missed a) alike_serve_missed (length first.records) first second alike)

  alike_instant : {first second : Roster} → AreAlike d first second → AreAlikeChanges d (serve_instant first) (serve_instant second)
  alike_instant alike = alike_followed serve_dues (alike_deadlines alike) alike_dues

  -- the goal of a tick is later too
  pub alike_goal : {first second : Roster} → AreAlike d first second → (n : ℕ) → tick_goal second n ≡ tick_goal first n + d
  alike_goal {first} {second} alike n =
      let e : second.now + n ≡ first.now + n + d = omega (arith, alike.time) in
      rw (e, same_next alike) (same_not_beyond d (first.now + n) (next_instant first))

  pub alike_time : {first second : Roster} → AreAlike d first second → HasNoPastDue first → HasNoPastDeadline first → (n : ℕ)
      → AreAlikeChanges d (pass_time first n) (pass_time second n)
  unfolding pass_time
  alike_time {first} {second} alike dues deadlines n =
      alike_instant (alike_advance alike (tick_goal first n) (tick_goal second n) (alike_goal alike n) (goal_forward first n dues deadlines))
