-- The facts that hold after every list of events: at the opening, and after each turn and each
-- tick.
use Rattle.std.proofs.Common.{◌≡◌, ℕ, zero, suc, ◌+◌, ◌*◌, ◌<◌, ◌≤◌, ◌&&◌, ◌==◌, nat_lt, subst, Bool, true, false, List, [], ◌∷◌, ◌++◌, length, get_or, Option, None, Some, option_map, cond, if◌then◌else◌, pos, ◌+ℤ◌, ◌≤ℤ◌, refl, sym, ◌∙◌, ap, arith, length-append, inl, inr}
use Rattle.std.specs.Prelude.{All}
use Rattle.std.proofs.lemmas.Bool.{both_ways, cond_both, ltb-true}
use Rattle.std.proofs.lemmas.List.{map-append}
use Rattle.std.proofs.lemmas.List.Elements.{All-nil, All-pop, All-push}
use Rattle.std.proofs.lemmas.Int.{ints}
use Rattle.std.proofs.lemmas.Option.{none-some, same_Some}
use Rattle.apex_types.specs.declared.limits.TheConstants.{MOST_PROCESSES, MOST_TICKS}
use Rattle.apex_laws.specs.Premises.{most_given}
use Rattle.apex_laws.specs.Terms.{Call, Event, OpenWork, Record, Wait, Who, Work}
use Rattle.apex_types.specs.declared.entries.Event.TheVariants.{Turn, Tick}
use Rattle.apex_machine.specs.declared.records.Wait.TheVariants.{Period, Mutex}
use Rattle.apex_types.specs.declared.entries.Who.TheVariants.{Core, Ticker}
use Rattle.apex_machine.specs.processes.Distinct.{IsStamped}
use Rattle.apex_machine.specs.History.{init_count}
use Rattle.apex_calls.specs.Lines.{IsPrintable}
use Rattle.apex_machine.specs.Situations.{due_call}
use Rattle.apex_machine.specs.Deeds.{Deed, Objects, tick_deed, turn_deed}
use Rattle.apex_machine.specs.Machine.{Machine, objects_after, open_work, opening, situation_of, after_deed, turn, tick, happen, accept, run, replay, events_of, event_of, entry_of}
use Rattle.apex_machine.specs.processes.Held.{holds}
use Rattle.apex_machine.specs.processes.Owners.{AreLawfullyOwned}
use Rattle.apex_machine.specs.processes.Periods.{AreInTime}
use Rattle.apex_types.specs.Places.{map_places}
use Rattle.apex_types.specs.Modes.{is_cold_start}
use Rattle.apex_machine.specs.processes.Roster.{Roster, nobody, opening_record, opening_roster, record_at}
use Rattle.apex_machine.specs.processes.Stamps.{advance_to}
use Rattle.apex_machine.specs.table.Table.{Table, ProcessConfig, IsLawful, no_process}
use Rattle.apex_machine.specs.Ticks.{tick_goal}
use Rattle.apex_machine.specs.Works.{fresh, is_turn_of, watched, work_begun}
use Rattle.apex_machine.proofs.BothProfiles.{lawful_count, some_owned}
use Rattle.apex_machine.proofs.DistinctStamps.{stamped_opening, stamped_advance_to}
use Rattle.apex_machine.proofs.Dues.{goal_before_deadlines, goal_before_dues, goal_forward, goal_near}
use Rattle.apex_machine.proofs.Owners.{owners_kept}
use Rattle.apex_types.proofs.Places.{length-map_places}
use Rattle.apex_machine.proofs.Reaches.{in_time_later}
use Rattle.apex_laws.specs.AskedWaits.{awaited}
use Rattle.apex_machine.specs.Events.{IsWithin}
use Rattle.apex_laws.proofs.Known.{known_due}
use Rattle.apex_laws.proofs.OpenWorks.{open_after, open_by_deed}
use Rattle.apex_laws.proofs.Runs.{length-happen, accept-room, run-append}
use Rattle.apex_laws.proofs.TickTold.{tick_owes}
use Rattle.apex_laws.proofs.Turns.{IsAtWork, IsOrderly, Owes, turn_owes}

-- the maker of an event, its deed, and the instant to which time goes at it
abbrev pub who_of : Event → Who
who_of (Turn core) = Core core
who_of (Tick n) = Ticker

abbrev pub deed_at : Table → Machine → Objects → Event → Deed
deed_at table machine objects (Turn core) =
    turn_deed table machine.roster objects core (open_work machine core) (due_call table (situation_of table machine) core)
deed_at table machine objects (Tick n) = tick_deed machine.roster objects n

abbrev pub instant_of : Roster → Event → ℕ
instant_of roster (Turn core) = roster.now
instant_of roster (Tick n) = tick_goal roster n

-- an event adds the entry of its deed
abbrev pub happened : Table → Machine → Event → Machine
happened table machine event =
    after_deed machine (who_of event) (deed_at table machine (objects_after table machine.history) event)

pub happens : (table : Table) (machine : Machine) (event : Event)
    → happen table machine event ≡ happened table machine event
unfolding turn tick
happens table machine (Turn core) = refl
happens table machine (Tick n) = refl

-- the entry records the event
tells : (table : Table) (machine : Machine) (number : ℕ) (objects : Objects) (event : Event)
    → event_of (entry_of number (who_of event) (deed_at table machine objects event)) ≡ event
tells table machine number objects (Turn core) = refl
tells table machine number objects (Tick n) = refl

-- the events that the history then records
pub told : (table : Table) (machine : Machine) (event : Event)
    → events_of (happen table machine event).history ≡ events_of machine.history ++ event ∷ []
told table machine event =
    let objects = objects_after table machine.history in
    let number = length machine.history + 1 in
    let e = entry_of number (who_of event) (deed_at table machine objects event) in
    ap (λ (m : Machine). events_of m.history) (happens table machine event)
    ∙ map-append event_of machine.history (e ∷ [])
    ∙ ap (λ (x : Event). events_of machine.history ++ x ∷ []) (tells table machine number objects event)

-- events in range take at most 1,048,576 ticks for each entry
abbrev pub IsTimely : Table → Machine → Type 0
IsTimely table machine = All (IsWithin table.cores) (events_of machine.history)
    → machine.roster.now ≤ MOST_TICKS * length machine.history

-- a process with work open on a core is at work there
abbrev pub AreAtWork : Machine → Type 0
AreAtWork machine = (core : ℕ) (o : OpenWork) → open_work machine core ≡ Some o → IsAtWork machine.roster core o.work.process

-- the facts about the machine after every list of events on an accepted table: all is in order,
-- stamps differ, and are left for all that the history's limit still admits, every process is in
-- time, the ids of each entry are the table's, the history is within the limit and replays, time is
-- in range, there is a state for each entry, and each process with work open is at work
pub record IsSound (table : Table) (machine : Machine) : Type 0 where
  pub orderly : IsOrderly table machine.history machine.roster
  pub stamps : machine.roster.young ≤ℤ pos (2 * MOST_PROCESSES + most_given * length machine.history)
  pub older : pos 0 ≤ℤ (machine.roster.old +ℤ pos (most_given * length machine.history))
  pub stamped : IsStamped machine.roster
  pub times : AreInTime machine.roster
  pub known : All (IsPrintable table) machine.history
  pub within : length machine.history ≤ table.limit
  pub replays : replay table machine.history ≡ machine
  pub time : IsTimely table machine
  pub past : length machine.past ≡ length machine.history
  pub workers : AreAtWork machine

-- in COLD_START alone an init step is due
due_cold : (cold first : Bool) (next : Option Call) (call : Call) → cond (cold && first) next None ≡ Some call → cold ≡ true
due_cold true first next call e = refl
due_cold false first next call e = absurd (none-some call e)

-- work that is open after a deed is work that it began, or work that was open before
stood_open : (roster : Roster) (core : ℕ) (found : Option OpenWork) (o : OpenWork) → option_map (watched roster core) found ≡ Some o
    → (before : OpenWork) × (found ≡ Some before) × (before.work ≡ o.work)
stood_open roster core None o e = absurd (none-some o e)
stood_open roster core (Some before) o e =
    (before, refl, ap (λ (x : OpenWork). x.work) (same_Some (watched roster core before) o e))

just_begun : (begun : Option Work) (o : OpenWork) → option_map fresh begun ≡ Some o → begun ≡ Some o.work
just_begun None o e = absurd (none-some o e)
just_begun (Some work) o e = ap (λ (x : OpenWork). Some x.work) (same_Some (fresh work) o e)

-- time goes forward, past no due and no deadline, and by 1,048,576 at the most in an event that is
-- in range
pub record GoesTo (cores : ℕ) (event : Event) (roster : Roster) (t : ℕ) : Type 0 where
  pub forward : roster.now ≤ t
  pub near : IsWithin cores event → t ≤ roster.now + MOST_TICKS
  pub times : AreInTime (advance_to roster t)

module _ (table : Table) (lawful : IsLawful table) (machine : Machine) (sound : IsSound table machine) where
  pub goes : (event : Event) → GoesTo table.cores event machine.roster (instant_of machine.roster event)
  goes (Turn core) = record { forward = omega arith; near = λ _. omega arith; times = sound.times }
  goes (Tick n) =
      let roster = machine.roster in
      let forward = goal_forward roster n (λ p. (sound.times p).due) (λ p. (sound.times p).deadline) in
      record {
        forward = forward;
        near = λ range. omega (arith, goal_near roster n, range.1);
        times = in_time_later roster (tick_goal roster n) sound.times forward (goal_before_dues roster n) (goal_before_deadlines roster n);
      }

  -- the duties of the event's deed from then on
  pub owes : (event : Event)
      → Owes table machine.history (advance_to machine.roster (instant_of machine.roster event)) (who_of event)
      (deed_at table machine (objects_after table machine.history) event)
  owes (Turn core) =
      let cold = is_cold_start machine.roster.mode in
      turn_owes table lawful machine.history core machine.roster sound.orderly (open_work machine core) (sound.workers core)
      (due_call table (situation_of table machine) core)
      (known_due table (init_count machine.history) lawful (cold && core == 0)) (due_cold cold (core == 0) _)
  owes (Tick n) =
      let count = lawful_count table lawful in
      tick_owes table machine.history machine.roster sound.orderly (omega (arith, sound.orderly.many, count)) n (goes (Tick n)).times

  -- the objects are then those that the deed left
  pub objects_happen : (event : Event) → objects_after table (happen table machine event).history
      ≡ (deed_at table machine (objects_after table machine.history) event).outcome.object
  objects_happen event =
      ap (λ (m : Machine). objects_after table m.history) (happens table machine event) ∙ (owes event).exact.objects

  -- time goes forward, and is in range if ticks are
  forward_happen : (event : Event) → machine.roster.now ≤ (happen table machine event).roster.now
  forward_happen event = rw (happens table machine event, (owes event).arrives.moves.time) (goes event).forward

  time_happen : (event : Event) → IsTimely table (happen table machine event)
  time_happen event all =
      let is = told table machine event in
      let parts = All-pop (IsWithin table.cores) _ (events_of machine.history) (Some event) is all in
      let now = ap (λ (m : Machine). m.roster.now) (happens table machine event) ∙ (owes event).arrives.moves.time in
      omega (arith, length-happen table machine event, sound.time parts.0, (goes event).near parts.1, now)

  replays_happen : (event : Event) → length machine.history < table.limit
      → let after = happen table machine event in replay table after.history ≡ after
  replays_happen event room =
      let again = run-append table (opening table) (events_of machine.history) (event ∷ []) in
      rw (told table machine event, again, sound.replays) (accept-room table machine event room)

  -- a process with work open on another core stays at work: it is bound to that core, and asks for
  -- nothing
  stays_at_work : (event : Event) (core p : ℕ) → is_turn_of core (who_of event) ≡ false → IsAtWork machine.roster core p
      → IsAtWork (happened table machine event).roster core p
  stays_at_work event core p elsewhere at =
      let after = happened table machine event in
      let due = owes event in
      record {
        known = rw due.arrives.moves.many at.known;
        bound = due.arrives.cores at.late p ∙ at.bound;
        idle = idle due (awaited (record_at after.roster p)) refl;
        late = due.arrives.moves.late at.late;
      } where
        idle : Owes table machine.history (advance_to machine.roster (instant_of machine.roster event)) (who_of event)
            (deed_at table machine (objects_after table machine.history) event)
            → (waits : Option Wait) → awaited (record_at (happened table machine event).roster p) ≡ waits → waits ≡ None
        idle due None is = refl
        idle due (Some w) is = elim (due.asks.still p w is) [
          | inl before ↦ absurd (none-some w (sym at.idle ∙ before))
          | inr own ↦ absurd (both_ways _ elsewhere (rw at.bound at (due.own p own.0)))
        ]

  workers_happen : (event : Event) → AreAtWork (happened table machine event)
  workers_happen event core o is =
      let deed = deed_at table machine (objects_after table machine.history) event in
      let after = happened table machine event in
      let found = stood_open after.roster core (open_by_deed machine (who_of event) deed core) o
      (sym (open_after machine (who_of event) deed sound.past core) ∙ is) in
      by_turn (is_turn_of core (who_of event)) refl found.0 found.1 found.2 where
        by_turn : (mine : Bool) → is_turn_of core (who_of event) ≡ mine → (before : OpenWork)
            → (if mine then option_map fresh (work_begun (deed_at table machine (objects_after table machine.history) event).caller
            (deed_at table machine (objects_after table machine.history) event).call
            (deed_at table machine (objects_after table machine.history) event).outcome.reply) else open_work machine core) ≡ Some before
            → before.work ≡ o.work → IsAtWork (happened table machine event).roster core o.work.process
        by_turn true mine before e same =
            rw (← same) ((owes event).begun before.work (just_begun _ before e) core mine)
        by_turn false elsewhere before e same =
            rw (← same) (stays_at_work event core before.work.process elsewhere (sound.workers core before e))

  pub sound_happen : (event : Event) → length machine.history < table.limit
      → IsSound table (happen table machine event)
  sound_happen event room =
      let after = happened table machine event in
      let is = happens table machine event in
      let longer : length after.history ≡ length machine.history + 1 = rw length-append refl in
      let due = owes event in
      let arrives = due.arrives in
      let moves = arrives.moves in
      let orderly = sound.orderly in
      let starts = orderly.starts in
      subst (IsSound table) (sym is) (record {
        orderly = record {
          many = moves.many ∙ orderly.many;
          rules = moves.rules ∙ orderly.rules;
          attributes = λ p. arrives.attributes p ∙ orderly.attributes p;
          one = moves.one orderly.one;
          starts = moves.starts
              (record { dormant = starts.dormant; early = starts.early; undue = starts.undue });
          owners = arrives.owners (owners_kept machine.roster (advance_to machine.roster (instant_of machine.roster event))
              (record { rules = refl; owned = λ q. refl; mutex = λ q m is. is }) orderly.owners);
          kept = due.exact.kept;
        };
        stamps = rw longer (omega (arith, ints, moves.stamps, sound.stamps));
        older = rw longer (omega (arith, ints, moves.older, sound.older));
        stamped = moves.stamped (stamped_advance_to machine.roster sound.stamped (instant_of machine.roster event));
        times = moves.times (goes event).times;
        known = All-push (IsPrintable table) machine.history _ sound.known due.known;
        within = rw longer (omega (arith, room));
        replays = subst (λ (m : Machine). replay table m.history ≡ m) is (replays_happen event room);
        time = subst (IsTimely table) is (time_happen event);
        past = rw (length-append, length-append) (omega (arith, sound.past));
        workers = workers_happen event;
      })

  -- so it is if the history may be full
  pub sound_accept : (event : Event) → IsSound table (accept table machine event)
  sound_accept event =
      cond_both {A = Machine} (nat_lt (length machine.history) table.limit) (happen table machine event) machine
      (IsSound table) (λ room. sound_happen event (ltb-true _ _ room)) (λ _. sound)

  forward_accept : (event : Event) → machine.roster.now ≤ (accept table machine event).roster.now
  forward_accept event =
      cond_both {A = Machine} (nat_lt (length machine.history) table.limit) (happen table machine event) machine
      (λ (after : Machine). machine.roster.now ≤ after.roster.now) (λ _. forward_happen event) (λ _. omega arith)

-- so is it after every list of events, and time has gone forward
sound_after : (table : Table) → IsLawful table → (machine : Machine) (events : List Event)
    → IsSound table machine → IsSound table (run table machine events)
sound_after table lawful machine [] sound = sound
sound_after table lawful machine (event ∷ events) sound =
    sound_after table lawful (accept table machine event) events (sound_accept table lawful machine sound event)

pub forward_after : (table : Table) → IsLawful table → (machine : Machine) (events : List Event)
    → IsSound table machine → machine.roster.now ≤ (run table machine events).roster.now
forward_after table lawful machine [] sound = omega arith
forward_after table lawful machine (event ∷ events) sound =
    let after = sound_accept table lawful machine sound event in
    let first = forward_accept table lawful machine sound event in
    omega (arith, first, forward_after table lawful (accept table machine event) events after)

-- at the opening no process is started, waits, is suspended or released, or has a due or a deadline
record IsDormant (r : Record) : Type 0 where
  started : r.started ≡ false
  suspended : r.suspended ≡ None
  wait : r.wait ≡ None
  due : r.due ≡ None
  deadline : r.deadline ≡ None
  release : r.release ≡ 0
  owned : r.owned ≡ []

opening_dormant : (entries : List ProcessConfig) (q p : ℕ)
    → IsDormant (get_or (map_places opening_record q entries) p nobody)
opening_dormant [] q p = record { started = refl; suspended = refl; wait = refl; due = refl; deadline = refl; release = refl; owned = refl }
opening_dormant (e ∷ entries) q zero = record { started = refl; suspended = refl; wait = refl; due = refl; deadline = refl; release = refl; owned = refl }
opening_dormant (e ∷ entries) q (suc p) = opening_dormant entries (q + 1) p

-- and has the attributes that the table gives it
opening_attributes : (entries : List ProcessConfig) (q p : ℕ)
    → (get_or (map_places opening_record q entries) p nobody).attributes ≡ (get_or entries p no_process).attributes
opening_attributes [] q p = refl
opening_attributes (e ∷ entries) q zero = refl
opening_attributes (e ∷ entries) q (suc p) = opening_attributes entries (q + 1) p

pub sound_opening : (table : Table) → IsLawful table → IsSound table (opening table)
sound_opening table lawful =
    let count = lawful_count table lawful in
    let dormant = opening_dormant table.processes 0 in
    let nobody_asked : (p : ℕ) (w : Wait) → awaited (record_at (opening_roster table) p) ≡ Some w → ⊥ =
    λ p w h. none-some w (rw ((dormant p).wait, (dormant p).suspended) at h) in
    record {
      orderly = record {
        many = length-map_places opening_record 0 table.processes;
        rules = refl;
        attributes = opening_attributes table.processes 0;
        one = λ p h. (dormant p).wait;
        starts = record {
          dormant = λ p e. (dormant p).wait;
          early = λ e p h. absurd (both_ways _ (dormant p).started h);
          undue = λ e p. (dormant p).due;
        };
        owners = record {
          most = some_owned table.profile;
          owned = λ p.
              subst (AreLawfullyOwned (opening_roster table)) (sym (dormant p).owned) (record { lawful = tt; few = omega arith });
          one = λ m p q first second. absurd (both_ways false refl (sym (ap (holds m) (dormant p).owned) ∙ first));
          waiters = λ p m h. absurd (none-some (Mutex m) (sym (dormant p).wait ∙ h));
        };
        kept = record {
          semaphores = λ s h. record {
            holds = record { enough = omega arith; bounded = omega (arith, (lawful.semaphores s h).initial) };
            held = λ p w h is. absurd (nobody_asked p w h);
          };
          buffers = λ b h. record {
            holds = record { delivered = record { taken = []; many = refl; split = refl }; fits = omega arith };
            held = λ p w h is. absurd (nobody_asked p w h);
          };
          blackboards = λ b h. record { holds = refl; held = λ p w h is. refl };
          event_flags = λ e h. record { holds = refl; held = λ p w h is. refl };
          asked = λ p w h. absurd (nobody_asked p w h);
        };
      };
      stamps = omega (arith, ints, count);
      older = omega (arith, ints);
      stamped = stamped_opening table;
      times = λ p. record {
        due = λ t h. omega arith;
        deadline = λ t h. omega arith;
        release = omega (arith, (dormant p).release);
        period = λ h. absurd (none-some Period (sym (dormant p).wait ∙ h));
      };
      known = All-nil (IsPrintable table);
      within = omega arith;
      replays = refl;
      time = λ _. omega arith;
      past = refl;
      workers = λ core o is. absurd (none-some o is);
    }

-- every run on an accepted table is sound
pub sound_run : (table : Table) → IsLawful table → (events : List Event)
    → IsSound table (run table (opening table) events)
sound_run table lawful events = sound_after table lawful (opening table) events (sound_opening table lawful)
