-- A tick goes to its goal, since the dues and deadlines that are served there take no time, and a
-- tick of a pace passes over none of them.
use Rattle.std.proofs.Common.{◌≡◌, ◌∙◌, ℕ, ◌+◌, ◌≤◌, List, [], ◌∷◌, Option, None, Some, option_map, min, refl, arith, not, ◌&&◌}
use Rattle.std.proofs.lemmas.Bool.{cond_both}
use Rattle.std.proofs.lemmas.Option.{none-some, same_Some}
use Rattle.apex_types.specs.declared.modes.DeadlineType.{DeadlineType}
use Rattle.apex_types.specs.declared.modes.DeadlineType.TheVariants.{Soft, Hard}
use Rattle.apex_machine.specs.declared.holdings.Holding.{Holding}
use Rattle.apex_machine.specs.declared.records.Record.{Record}
use Rattle.apex_machine.specs.declared.records.Wait.{Wait}
use Rattle.apex_machine.specs.declared.records.Queue.TheVariants as queues
use Rattle.apex_machine.specs.declared.records.Wait.TheVariants.{Start, Period}
use Rattle.apex_machine.specs.Ticks.{miss, not_beyond, pass_time, serve_deadlines, serve_due, serve_instant, serve_missed, tick_goal, wait_over}
use Rattle.apex_machine.specs.processes.Dues.{first_due, first_missed, next_instant, sooner}
use Rattle.apex_machine.specs.processes.Held.{in_order}
use Rattle.apex_machine.specs.processes.Roster.{Roster, record_at, with_record}
use Rattle.apex_machine.specs.processes.Running.{is_eligible}
use Rattle.apex_machine.specs.processes.Stamps.{advance_to, awake, newest, readied, released_at, set_deadline, stop, without_due}
use Rattle.apex_machine.specs.processes.Waiters.{first_waiter}
use Rattle.apex_machine.specs.services.Handovers.{hand_on, hand_over, hand_to}
use Rattle.apex_machine.specs.services.InTurn.{Changed, in_turn}
use Rattle.apex_machine.specs.table.Table.{Table}
use Rattle.apex_machine.proofs.InTurn.{holds_in_turn}
use Rattle.apex_types.specs.declared.entries.Event.TheVariants.{Tick}
use Rattle.apex_pace.specs.Laws.{IsServed}
use Rattle.apex_pace.specs.Pace.{Paced, all_cores, first_work_end, is_quiet, is_settled, is_starting, next_moment, next_tick, paced_step, settled_tick, ticks_to}
use Rattle.apex_pace.specs.Terms.{Pace}

readied_time : (roster : Roster) (p : ℕ) (r : Record) → (readied roster p r).now ≡ roster.now
readied_time roster p r =
    cond_both {A = Roster} (is_eligible roster.mode r) (newest roster p r) (with_record roster p r)
    (λ new. new.now ≡ roster.now) (λ _. refl) (λ _. refl)

handed_time : (roster : Roster) (holding : Holding) (found : Option ℕ) → (hand_to roster holding found).roster.now ≡ roster.now
handed_time roster holding None = refl
handed_time roster holding (Some q) =
    readied_time roster q (awake (record (record_at roster q) { owned = record holding { depth = 1 } ∷ [] }))

hand_on_time : (held : List Holding) (roster : Roster) → (hand_on held roster).roster.now ≡ roster.now
hand_on_time [] roster = refl
hand_on_time (holding ∷ others) roster =
    hand_on_time others (hand_over roster holding).roster
    ∙ handed_time roster holding (first_waiter roster (queues.Mutex holding.mutex))

miss_time : (roster : Roster) (p : ℕ) (kind : DeadlineType) → (miss roster p kind).roster.now ≡ roster.now
miss_time roster p Soft = refl
miss_time roster p Hard = hand_on_time (in_order (record_at roster p).owned) (stop roster p)

over_time : (roster : Roster) (p : ℕ) (wait : Option Wait) → (wait_over roster p wait).roster.now ≡ roster.now
over_time roster p (Some Start) = readied_time roster p (released_at roster.now (record_at roster p))
over_time roster p (Some Period) = readied_time roster p (released_at roster.now (record_at roster p))
over_time roster p _ = readied_time roster p (awake (record_at roster p))

-- if each change takes no time, all of them take none
module _ (next : Roster → Option ℕ) (change : Roster → ℕ → Changed)
    (same : (roster : Roster) (p : ℕ) → (change roster p).roster.now ≡ roster.now) where
  in_turn_time : (left : ℕ) (roster : Roster) → (in_turn next change left roster).roster.now ≡ roster.now
  in_turn_time left roster =
      holds_in_turn next change (λ r notices. r.now ≡ roster.now)
      (λ r before p is holds. same r p ∙ holds) left roster [] refl

due_time : (roster : Roster) (p : ℕ) → (serve_due roster p).roster.now ≡ roster.now
due_time roster p = over_time (without_due roster p) p (record_at roster p).wait

missed_time : (roster : Roster) (p : ℕ) → (serve_missed roster p).roster.now ≡ roster.now
missed_time roster p = miss_time (set_deadline roster p None) p (record_at roster p).attributes.deadline

instant_time : (roster : Roster) → (serve_instant roster).roster.now ≡ roster.now
instant_time roster =
    in_turn_time first_due serve_due due_time _ (serve_deadlines roster).roster
    ∙ in_turn_time first_missed serve_missed missed_time _ roster

time_after : (roster : Roster) (n : ℕ) → (pass_time roster n).roster.now ≡ tick_goal roster n
unfolding pass_time
time_after roster n = instant_time (advance_to roster (tick_goal roster n))

not_before : (t : ℕ) (next : Option ℕ) → ((u : ℕ) → next ≡ Some u → t ≤ u) → not_beyond t next ≡ t
not_before t None far = refl
not_before t (Some u) far = omega (arith, far u refl)

-- the tick of a pace goes no further than the next instant
module _ (s : Paced) (u : ℕ) (coming : s.situation.roster.now + 1 ≤ u) where
  within : (moment n : ℕ) → moment ≤ u → ticks_to s moment ≡ n → s.situation.roster.now + n ≤ u
  within moment n near is = omega (arith, coming, near, is)

  moment_within : (next work : Option ℕ) (n : ℕ) → next ≡ Some u → option_map (ticks_to s) (sooner next work) ≡ Some n
      → s.situation.roster.now + n ≤ u
  moment_within None work n is e = absurd (none-some u is)
  moment_within (Some t) None n is e = within t n (omega (arith, same_Some t u is)) (same_Some _ _ e)
  moment_within (Some t) (Some w) n is e = within (min t w) n (omega (arith, same_Some t u is)) (same_Some _ _ e)

  tick_within : (pace : Pace) (table : Table) (n : ℕ) → next_instant s.situation.roster ≡ Some u → next_tick pace table s ≡ Some n
      → s.situation.roster.now + n ≤ u
  tick_within pace table n is =
      let Fits : Option ℕ → Type 0 = λ tick. tick ≡ Some n → s.situation.roster.now + n ≤ u in
      cond_both {A = Option ℕ} (not (is_starting s) && all_cores (is_settled pace s) table.cores) (settled_tick pace.percent table s) None Fits
      (λ _. cond_both {A = Option ℕ} (all_cores (is_quiet pace.percent s) table.cores) (option_map (ticks_to s) (next_moment pace.percent table s)) (Some 1) Fits
      (λ _. moment_within (next_instant s.situation.roster) (first_work_end pace.percent s table.cores) n is)
      (λ _ one. omega (arith, coming, same_Some 1 n one)))
      (λ _ none. absurd (none-some n none))

-- so a tick that is no longer takes all of its time
pub tick_passes : (pace : Pace) (table : Table) (s : Paced) (n ticks : ℕ) → next_tick pace table s ≡ Some n → ticks ≤ n → IsServed s
    → (paced_step table s (Tick ticks)).situation.roster.now ≡ s.situation.roster.now + ticks
tick_passes pace table s n ticks is few served =
    time_after s.situation.roster ticks
    ∙ not_before (s.situation.roster.now + ticks) (next_instant s.situation.roster)
    (λ u next. omega (arith, few, tick_within s u (served u next) pace table n next is))
