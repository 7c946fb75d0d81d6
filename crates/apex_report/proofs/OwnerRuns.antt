-- In every run the owner of a mutex that is read off the history is the one of the roster.
use Rattle.std.proofs.Common.{◌≡◌, ℕ, zero, suc, get_or, ◌+◌, ◌≤◌, ◌==◌, ◌&&◌, ◌||◌, Bool, true, false, List, [], ◌∷◌, length, nat_lt, Option, None, Some, if◌then◌else◌, inl, inr, refl, sym, ◌∙◌, ap, subst, arith}
use Rattle.std.proofs.lemmas.Bool.{both_ways, cond_both}
use Rattle.std.proofs.lemmas.List.Folds.{list_any-append}
use Rattle.std.proofs.lemmas.Option.{none-some, same_Some}
use Rattle.apex_types.specs.declared.calls.Call.TheVariants.{Caller as ToCaller}
use Rattle.apex_types.specs.declared.calls.CallerCall.TheVariants.{StopSelf}
use Rattle.apex_types.specs.declared.entries.Caller.TheVariants.{Process, Init}
use Rattle.apex_types.specs.declared.entries.Event.TheVariants.{Turn, Tick}
use Rattle.apex_types.specs.declared.entries.Who.TheVariants.{Core, Ticker}
use Rattle.apex_machine.specs.declared.records.Queue.TheVariants as queues
use Rattle.apex_machine.specs.declared.records.Wait.TheVariants as wait
use Rattle.apex_machine.specs.Deeds.{Deed, Objects, chosen_deed, ended_deed, move_on, next_place, script_deed, served, service, step_of, tick_deed, turn_deed}
use Rattle.apex_machine.specs.Machine.{Machine, accept, entry_of, happen, objects_after, open_work, opening, run, situation_of}
use Rattle.apex_machine.specs.Situations.{due_call}
use Rattle.apex_machine.specs.Ticks.{pass_time, serve_deadlines, serve_dues, tick_goal}
use Rattle.apex_machine.specs.processes.Held.{holding_of}
use Rattle.apex_machine.specs.processes.Owners.{HasOrderlyOwners, depth_of, owner, owns}
use Rattle.apex_machine.specs.processes.Roster.{Roster, nobody, opening_record, record_at}
use Rattle.apex_types.specs.Places.{map_places}
use Rattle.apex_machine.specs.processes.Running.{chosen}
use Rattle.apex_machine.specs.processes.Stamps.{WaitsForOne, advance_to, is_by_itself, set_step}
use Rattle.apex_machine.specs.services.Calls.{is_work}
use Rattle.apex_machine.specs.services.Callers.{IsReady, IsReadyCaller}
use Rattle.apex_machine.specs.services.Satisfied.{latest_call}
use Rattle.apex_machine.specs.table.Table.{Table, ProcessConfig, IsLawful, process_config}
use Rattle.apex_machine.proofs.Held.{is_held, none_held}
use Rattle.apex_machine.proofs.Owners.{nobody_owns, owner_owns, owners_kept}
use Rattle.apex_machine.proofs.Reaches.{reaches_set_step}
use Rattle.apex_machine.proofs.Starts.{chosen_ready, ready_step}
use Rattle.apex_laws.specs.Terms.{Call, Caller, Holding, OpenWork}
use Rattle.apex_laws.proofs.Satisfied.{is_waking, wakes}
use Rattle.apex_laws.proofs.Sound.{IsSound, deed_at, happens, owes, instant_of, sound_accept, sound_opening, sound_run, who_of}
use Rattle.apex_report.specs.Jobs.{is_hard_miss_of}
use Rattle.apex_report.specs.Laws.{IsTheOwner}
use Rattle.apex_report.specs.Ownerships.{acquires, owner_in}
use Rattle.apex_report.specs.Terms.{Entry, Event, Owner}
use Rattle.apex_report.proofs.Heirs.{Stands, Transfers, for_it, one_deep, owner_stands, waits_as_asked}
use Rattle.apex_report.proofs.Holders.{depth_at, keeps_dues, misses, passes_deadlines, unowned, waits_at}
use Rattle.apex_report.proofs.ObjectGrowth.{owner_more}
use Rattle.apex_report.proofs.Transferred.{alive_by, by_service, in_step, still_new, still_none, transfers_still, waits_step}

module _ (m : ℕ) where
  -- the owner that is found is the process of the roster
  owns_deep : (roster : Roster) → HasOrderlyOwners roster → (p : ℕ) → owns m (record_at roster p) ≡ true → 1 ≤ depth_at m roster p
  owns_deep roster orderly p is = by (holding_of m (record_at roster p).owned) refl where
    by : (found : Option Holding) → holding_of m (record_at roster p).owned ≡ found → 1 ≤ depth_of found
    by None held = absurd (both_ways _ (none_held m (record_at roster p).owned held) is)
    by (Some holding) held = ((is_held m holding (record_at roster p).owned held).lawful roster (orderly.owned p).lawful).depth.0

  pub is_the_owner : (roster : Roster) → HasOrderlyOwners roster → (found : Option Owner) → Stands m roster found → IsTheOwner roster m found
  is_the_owner roster orderly None none = record {
    process = by (owner roster m) refl;
    depth = λ one is. absurd (none-some one is);
  } where
    by : (found : Option ℕ) → owner roster m ≡ found → None ≡ found
    by None is = refl
    by (Some p) is = let deep = owns_deep roster orderly p (owner_owns roster m p is) in absurd (omega (arith, deep, none p))
  is_the_owner roster orderly (Some one) stands = record {
    process = by (owner roster m) refl;
    depth = λ another is.
        let same : one ≡ another = same_Some one another is in
        subst (λ (o : Owner). o.depth ≡ depth_at m roster o.process) same (sym stands.0);
  } where
    by : (found : Option ℕ) → owner roster m ≡ found → Some one.process ≡ found
    by None is =
        let none = nobody_owns roster m is one.process in
        absurd (nothing (holding_of m (record_at roster one.process).owned) refl none) where
          nothing : (found : Option Holding) → holding_of m (record_at roster one.process).owned ≡ found
              → owns m (record_at roster one.process) ≡ false → ⊥
          nothing None held h = omega (arith, ap depth_of held, stands.0, stands.1)
          nothing (Some holding) held h = both_ways _ h (is_held m holding (record_at roster one.process).owned held).held
    by (Some p) is =
        let deep = owns_deep roster orderly p (owner_owns roster m p is) in
        ap (λ (k : ℕ). Some k) (one_deep m roster orderly one.process p (omega (arith, stands.0, stands.1)) deep)

  -- a turn
  module _ (table : Table) (roster : Roster) (orderly : HasOrderlyOwners roster) (single : WaitsForOne roster) (objects : Objects) (number : ℕ) (core : ℕ) where
    abbrev TransfersAt : Deed → Type 0
    TransfersAt deed = Transfers m roster deed.outcome.roster (entry_of number (Core core) deed)

    of_step : (p step : ℕ) → (new : Roster) (e : Entry) → Transfers m (set_step roster p step) new e → Transfers m roster new e
    of_step p step new e is = record {
      depth = λ s. is.depth s ∙ rw (waits_step m roster p step s, in_step m roster p step s) refl;
      taken = is.taken;
      given = λ h. let so = is.given h in (so.0, so.1, subst (λ (d : ℕ). 1 ≤ d) (in_step m roster p step so.0) so.2);
      alive = is.alive;
    }

    serves : (left : Roster) (caller : Caller) (c : Call) → HasOrderlyOwners left → WaitsForOne left → IsReadyCaller left caller
        → Transfers m left (served left objects caller c).outcome.roster (entry_of number (Core core) (served left objects caller c))
    serves left caller c owners one ready =
        by_service m left caller number (service left objects caller c).roster.now (Core core) (unowned left owners) ready one owners objects c

    by_script : (p : ℕ) → IsReady roster p → (step : Option Call) → TransfersAt (script_deed table roster objects p step)
    by_script p ready None = serves roster (Process p) (ToCaller StopSelf) orderly single ready
    by_script p ready (Some c) =
        let next = next_place (process_config table p) (record_at roster p).step in
        let reaches = reaches_set_step roster p ready.known next in
        let left = move_on table roster p in
        cond_both {A = Roster} (is_work c) roster left (λ (left : Roster). TransfersAt (served left objects (Process p) c))
        (λ _. serves roster (Process p) c orderly single ready)
        (λ _. of_step p next (served left objects (Process p) c).outcome.roster (entry_of number (Core core) (served left objects (Process p) c))
        (serves left (Process p) c (reaches.owners orderly) (reaches.moves.one single) (ready_step roster p next ready)))

    by_chosen : (found : Option ℕ) → chosen roster core ≡ found → TransfersAt (chosen_deed table roster objects found)
    by_chosen None is = transfers_still m roster roster _ (still_none m roster) (λ s. refl) refl refl
    by_chosen (Some p) is = by_script p (chosen_ready roster core p is) (step_of table roster p)

    by_ended : (o : OpenWork) → TransfersAt (ended_deed table roster objects o)
    by_ended o = by o.unbroken where
      by : (b : Bool) → TransfersAt (ended_deed table roster objects (record o { unbroken = b }))
      by true =
          let p = o.work.process in
          let next = next_place (process_config table p) (record_at roster p).step in
          transfers_still m roster (set_step roster p next) _ (still_new m roster (set_step roster p next) (in_step m roster p next))
          (λ s. alive_by (s == p) false false false refl refl refl) refl refl
      by false =
          transfers_still m roster roster _ (still_none m roster) (λ s. alive_by (s == o.work.process) false false false refl refl refl) refl refl

    pub by_turn : (begun : Option OpenWork) (due : Option Call) → TransfersAt (turn_deed table roster objects core begun due)
    by_turn (Some o) due = by_ended o
    by_turn None (Some c) = serves roster Init c orderly single tt
    by_turn None None = by_chosen (chosen roster core) refl

  -- a tick
  tick_both : (lost first then_woken waits : Bool) (d : ℕ) → (then_woken ≡ true → first ≡ false → lost ≡ false → waits ≡ false)
      → (if lost then 0 else if first && waits then 1 else d) ≡ (if lost || false then 0 else if (first || then_woken) && waits then 1 else d)
  tick_both true first second waits d h = refl
  tick_both false true second waits d h = refl
  tick_both false false true true d h = let clash : true ≡ false = h refl refl refl in cc
  tick_both false false true false d h = refl
  tick_both false false false waits d h = refl

  by_tick : (roster : Roster) (n : ℕ) → HasOrderlyOwners (advance_to roster (tick_goal roster n)) → (objects : Objects) (number : ℕ)
      → Transfers m roster (tick_deed roster objects n).outcome.roster (entry_of number Ticker (tick_deed roster objects n))
  unfolding pass_time
  by_tick roster n orderly objects number =
      let old = advance_to roster (tick_goal roster n) in
      let first = serve_deadlines old in
      let second = serve_dues first.roster in
      let f = passes_deadlines m old (unowned old orderly) in
      let g = keeps_dues m first.roster in
      record {
        depth = λ s.
            g.depth s
            ∙ f.depth s
            ∙ rw (list_any-append (is_waking s) first.notices second.notices, list_any-append (is_hard_miss_of s) first.notices second.notices, g.kept s)
            (tick_both (misses m s first.notices) (wakes s first.notices) (wakes s second.notices) (waits_at m old s) (depth_at m old s)
            (λ woken quiet kept.
            sym (f.still s quiet kept)
            ∙ for_it m (record_at first.roster s).wait (is_by_itself (record_at first.roster s).suspended) wait.Time (g.woken s woken)));
        taken = λ h. absurd (both_ways false refl h);
        given = λ h. absurd (both_ways false refl h);
        alive = λ h. absurd (both_ways false refl h);
      }

  -- every event
  module _ (table : Table) (lawful : IsLawful table) where
    abbrev Tells : Machine → Type 0
    Tells machine = Stands m machine.roster (owner_in (queues.Mutex m) machine.history)

    module _ (machine : Machine) (sound : IsSound table machine) (event : Event) where
      abbrev objects_now : Objects
      objects_now = objects_after table machine.history

      abbrev deed_now : Deed
      deed_now = deed_at table machine objects_now event

      abbrev entry_now : Entry
      entry_now = entry_of (length machine.history + 1) (who_of event) deed_now

      advanced : (t : ℕ) → HasOrderlyOwners (advance_to machine.roster t)
      advanced t = owners_kept machine.roster (advance_to machine.roster t) (record { rules = refl; owned = λ q. refl; mutex = λ q n is. is }) sound.orderly.owners

      asked_so : (s : ℕ) → wakes s deed_now.outcome.notices ≡ true
          → acquires (queues.Mutex m) (latest_call s machine.history) ≡ waits_at m machine.roster s
      asked_so s h =
          let asked = sound.orderly.kept.asked in
          elim ((owes table lawful machine sound event).woken s h).1 [
            | inl waits ↦ waits_as_asked m (record_at machine.roster s) waits.0 (latest_call s machine.history) waits.1 (asked s waits.0 waits.1)
            | inr waits ↦ waits_as_asked m (record_at machine.roster s) waits.1.0 (latest_call s machine.history) waits.1.1 (asked s waits.1.0 waits.1.1)
          ]

    transfers : (machine : Machine) → (sound : IsSound table machine) → (event : Event)
        → Transfers m machine.roster (deed_now machine sound event).outcome.roster (entry_now machine sound event)
    transfers machine sound (Turn core) =
        by_turn table machine.roster sound.orderly.owners sound.orderly.one (objects_after table machine.history) (length machine.history + 1) core
        (open_work machine core) (due_call table (situation_of table machine) core)
    transfers machine sound (Tick n) =
        by_tick machine.roster n (advanced machine sound (Tick n) (tick_goal machine.roster n)) (objects_after table machine.history) (length machine.history + 1)

    tells_happen : (machine : Machine) → IsSound table machine → (event : Event) → Tells machine → Tells (happen table machine event)
    tells_happen machine sound event tells =
        let e = entry_now machine sound event in
        let new = (deed_now machine sound event).outcome.roster in
        let second = (owes table lawful machine sound event).arrives.owners (advanced machine sound event (instant_of machine.roster event)) in
        let grows = owner_more (queues.Mutex m) [] machine.history e None in
        subst Tells (sym (happens table machine event))
        (subst (Stands m new) (sym grows)
        (owner_stands m machine.history e machine.roster new sound.orderly.owners second (transfers machine sound event) (asked_so machine sound event)
        (owner_in (queues.Mutex m) machine.history) tells))

    tells_run : (events : List Event) (machine : Machine) → IsSound table machine → Tells machine → Tells (run table machine events)
    tells_run [] machine sound tells = tells
    tells_run (event ∷ events) machine sound tells =
        tells_run events (accept table machine event) (sound_accept table lawful machine sound event)
        (cond_both {A = Machine} (nat_lt (length machine.history) table.limit) (happen table machine event) machine Tells
        (λ _. tells_happen machine sound event tells) (λ _. tells))

    -- at the opening no process owns a mutex
    opening_none : (entries : List ProcessConfig) (q s : ℕ) → depth_of (holding_of m (get_or (map_places opening_record q entries) s nobody).owned) ≡ 0
    opening_none [] q s = refl
    opening_none (entry ∷ entries) q zero = refl
    opening_none (entry ∷ entries) q (suc s) = opening_none entries (q + 1) s

    pub owner_run : (events : List Event)
        → let machine = run table (opening table) events in IsTheOwner machine.roster m (owner_in (queues.Mutex m) machine.history)
    owner_run events =
        is_the_owner (run table (opening table) events).roster (sound_run table lawful events).orderly.owners _
        (tells_run events (opening table) (sound_opening table lawful) (opening_none table.processes 0))
