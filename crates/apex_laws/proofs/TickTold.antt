-- The duties of a tick: it leaves all objects as they are, for a process that it wakes with
-- NO_ERROR had waited for time, or for the mutex of a process that missed a HARD deadline.
use Rattle.std.proofs.Common.{◌≡◌, ℕ, ◌+◌, ◌≤◌, Bool, true, false, ◌&&◌, ◌==◌, List, [], length, Option, None, Some, refl, sym, ◌∙◌, inl, arith}
use Rattle.std.proofs.lemmas.Bool.{and_parts, eqb-true, both_ways}
use Rattle.std.proofs.lemmas.Option.{none-some}
use Rattle.apex_types.specs.declared.limits.TheConstants.{MOST_PROCESSES}
use Rattle.apex_laws.specs.Premises.{most_given}
use Rattle.apex_laws.specs.Terms.{DeadlineType, Entry, Record, Wait}
use Rattle.apex_types.specs.declared.entries.Caller.TheVariants.{Nobody}
use Rattle.apex_types.specs.declared.modes.DeadlineType.TheVariants.{Soft, Hard}
use Rattle.apex_machine.specs.declared.records.Wait.TheVariants.{Start, Time, Period}
use Rattle.apex_types.specs.declared.entries.Who.TheVariants.{Ticker}
use Rattle.apex_machine.specs.services.InTurn.{Changed, in_turn}
use Rattle.apex_machine.specs.processes.Periods.{AreInTime}
use Rattle.apex_machine.specs.processes.Roster.{Roster, record_at}
use Rattle.apex_machine.specs.processes.Dues.{first_due, first_missed}
use Rattle.apex_machine.specs.processes.Stamps.{is_by_itself, set_deadline, without_due, advance_to}
use Rattle.apex_machine.specs.table.Table.{Table}
use Rattle.apex_machine.specs.Ticks.{miss, serve_missed, serve_deadlines, wait_over, serve_due, serve_dues, serve_instant, tick_goal, pass_time}
use Rattle.apex_machine.specs.Deeds.{tick_deed}
use Rattle.apex_machine.specs.Machine.{objects_after}
use Rattle.apex_machine.proofs.InTurn.{holds_in_turn}
use Rattle.apex_machine.proofs.Reaches.{Reaches, arrives_of, reaches_more, reaches_then}
use Rattle.apex_laws.specs.AskedWaits.{asked_of, or_suspended}
use Rattle.apex_laws.proofs.DuesServed.{IsServable, reach_serve_dues}
use Rattle.apex_laws.proofs.MissesServed.{reach_serve_deadlines, room_left}
use Rattle.apex_laws.proofs.AskedWaits.{Frees, asks_freed, frees_then, frees_moved, frees_release, frees_unblock}
use Rattle.apex_laws.proofs.CallsServe.{exact_uncalled}
use Rattle.apex_laws.proofs.HandedOver.{IsServed, halts, served_none, served_then, waited_then}
use Rattle.apex_laws.proofs.Satisfied.{wakes}
use Rattle.apex_laws.proofs.Truths.{or_false, and_false}
use Rattle.apex_laws.proofs.Turns.{IsOrderly, Owes}

-- the wait was for time
is_for_time : Option Wait → Bool
is_for_time (Some Time) = true
is_for_time _ = false

for_time : (wait : Option Wait) (by_itself : Bool) → is_for_time wait ≡ true
    → or_suspended (asked_of wait) by_itself ≡ Some Time
unfolding is_for_time
for_time (Some Time) by_itself h = refl
for_time _ by_itself h = cc

-- whatever process p waited for, no process waits afterwards that did not wait before, and only a
-- wait for time ends with NO_ERROR
over_frees : (roster : Roster) (p : ℕ) (wait : Option Wait) → Frees roster (wait_over roster p wait).roster
over_frees roster p (Some Start) = frees_release roster p
over_frees roster p (Some Period) = frees_release roster p
over_frees roster p _ = frees_unblock roster p

over_waking : (roster : Roster) (p q : ℕ) (wait : Option Wait)
    → wakes q (wait_over roster p wait).notices ≡ (q == p && is_for_time wait)
unfolding is_for_time
over_waking roster p q (Some Time) = or_false (q == p && true)
over_waking roster p q (Some Start) = sym (and_false (q == p))
over_waking roster p q (Some Period) = sym (and_false (q == p))
over_waking roster p q _ = or_false (q == p && false)

-- one due is served
due_served : (roster : Roster) (p : ℕ) → IsServed roster (serve_due roster p).roster (serve_due roster p).notices
due_served roster p =
    let free = without_due roster p in
    let wait = (record_at roster p).wait in
    let r : Record = record (record_at roster p) { due = None } in
    record {
      frees = frees_then (frees_moved roster free p r refl (λ w h. h)) (over_frees free p wait);
      woken = λ q h.
          let here = and_parts (q == p) (is_for_time wait) (sym (over_waking free p q wait) ∙ h) in
          let waited = for_time wait (is_by_itself (record_at roster p).suspended) here.1 in
          inl (Time, rw (← eqb-true q p here.0) at waited, refl);
    }

-- a miss wakes only a process that waited for the mutex of the stopped one
miss_served : (roster : Roster) (p : ℕ) (kind : DeadlineType) → IsServed roster (miss roster p kind).roster (miss roster p kind).notices
miss_served roster p Soft = served_none roster
miss_served roster p Hard = halts roster p

missed_served : (roster : Roster) (p : ℕ) → IsServed roster (serve_missed roster p).roster (serve_missed roster p).notices
missed_served roster p =
    let cleared = set_deadline roster p None in
    let r : Record = record (record_at roster p) { deadline = None } in
    let kind = (record_at roster p).attributes.deadline in
    let missed = miss_served cleared p kind in
    let frees = frees_moved roster cleared p r refl (λ w h. h) in
    record { frees = frees_then frees missed.frees; woken = λ q h. waited_then roster cleared q frees (missed.woken q h) }

-- all deadlines at now are served, and then all dues
module _ (next : Roster → Option ℕ) (change : Roster → ℕ → Changed)
    (serves : (roster : Roster) (p : ℕ) → IsServed roster (change roster p).roster (change roster p).notices) where
  all_served : (left : ℕ) (roster : Roster) → IsServed roster (in_turn next change left roster).roster (in_turn next change left roster).notices
  all_served left roster =
      holds_in_turn next change (IsServed roster)
      (λ r notices p is served. served_then roster r (change r p).roster notices (change r p).notices served (serves r p))
      left roster [] (served_none roster)

instant_served : (roster : Roster) → IsServed roster (serve_instant roster).roster (serve_instant roster).notices
instant_served roster =
    let first = serve_deadlines roster in
    let second = serve_dues first.roster in
    served_then roster first.roster second.roster first.notices second.notices
    (all_served first_missed serve_missed missed_served (length roster.records) roster)
    (all_served first_due serve_due due_served (length first.roster.records) first.roster)

-- the stamps that are given at an instant: one for each notice of the misses, and one for each due
pub reach_serve_instant : (roster : Roster) → IsServable roster → length roster.records ≤ MOST_PROCESSES
    → Reaches most_given roster (serve_instant roster).roster
reach_serve_instant roster before few =
    let first = reach_serve_deadlines roster before.starts in
    let after = serve_deadlines roster in
    let servable : IsServable after.roster = record { starts = first.moves.starts before.starts; times = first.moves.times before.times } in
    let second = reach_serve_dues after.roster servable in
    reaches_more (length after.notices + length after.roster.records) most_given
    (omega (arith, few, first.moves.many, room_left roster before.starts))
    (reaches_then (length after.notices) (length after.roster.records) first second)

-- a tick owes this from the instant at which it halts
pub tick_owes : (table : Table) (history : List Entry) (roster : Roster) → IsOrderly table history roster
    → length roster.records ≤ MOST_PROCESSES → (n : ℕ) → AreInTime (advance_to roster (tick_goal roster n))
    → Owes table history (advance_to roster (tick_goal roster n)) Ticker
    (tick_deed roster (objects_after table history) n)
unfolding pass_time
tick_owes table history roster orderly few n times =
    let advanced = advance_to roster (tick_goal roster n) in
    let served = instant_served advanced in
    let starts = orderly.starts in
    let servable : IsServable advanced = record {
      starts = record { dormant = starts.dormant; early = starts.early; undue = starts.undue };
      times = times;
    } in
    record {
      arrives = arrives_of (reach_serve_instant advanced servable few);
      known = tt;
      asks = asks_freed Nobody None advanced (serve_instant advanced).roster served.frees;
      woken = λ p waking. (None, served.woken p waking, λ queue is. absurd (none-some queue is));
      own = λ p by. absurd (both_ways false refl by);
      begun = λ work begun. absurd (none-some work begun);
      exact = exact_uncalled table history roster orderly.kept _ _ refl refl served.woken
          (record { still = served.frees.still });
    }
