-- At an eventless entry no process changes.
use Rattle.std.proofs.Common.{◌≡◌, ◌∙◌, ℕ, ◌+◌, ◌<◌, true, ◌==◌, List, [], ◌∷◌, ◌++◌, inl, inr, All, Option, None, Some, ap, arith, length, length-append, refl, subst, sym}
use Rattle.std.specs.List.{last_or}
use Rattle.std.specs.Prelude.{is_none}
use Rattle.std.proofs.lemmas.Bool.{and_parts, cases_lt, eqb-true}
use Rattle.std.proofs.lemmas.List.{nil_from_length}
use Rattle.std.proofs.lemmas.List.Elements.{All-nil, All-push}
use Rattle.apex_types.specs.declared.entries.Event.TheVariants.{Turn, Tick}
use Rattle.apex_machine.specs.declared.records.Wait.TheVariants.{Start, Time, Period}
use Rattle.apex_machine.specs.Deeds.{Objects, chosen_deed, script_deed, step_of, tick_deed, turn_deed}
use Rattle.apex_machine.specs.Machine.{Machine, accept, entry_of, objects_after, open_work, opening, run, situation_of}
use Rattle.apex_machine.specs.Situations.{due_call}
use Rattle.apex_machine.specs.Terms.{Call, Notice}
use Rattle.apex_machine.specs.declared.records.Wait.{Wait}
use Rattle.apex_machine.specs.declared.works.OpenWork.{OpenWork}
use Rattle.apex_machine.specs.Ticks.{pass_time, serve_deadlines, serve_due, serve_instant, serve_missed, tick_goal, wait_over}
use Rattle.apex_machine.specs.processes.Dues.{first_due, first_missed}
use Rattle.apex_machine.specs.processes.Roster.{Roster, record_at}
use Rattle.apex_machine.specs.processes.Running.{chosen}
use Rattle.apex_machine.specs.processes.Stamps.{advance_to, without_due}
use Rattle.apex_machine.specs.table.Table.{Table}
use Rattle.apex_machine.proofs.InTurn.{holds_in_turn}
use Rattle.apex_laws.proofs.Runs.{accept-full, accept-room}
use Rattle.apex_laws.proofs.Sound.{deed_at, happened, happens, who_of}
use Rattle.apex_moments.specs.Moments.{Column, IsPictured, cell_of, picture}
use Rattle.apex_moments.specs.Places.{of_places}
use Rattle.apex_moments.specs.Terms.{Entry, Event}
use Rattle.apex_moments.specs.declared.moments.Cell.{Cell}
use Rattle.apex_moments.proofs.Pictured.{column_more, pictured_accept, pictured_opening}
use Rattle.apex_pictures.specs.Excerpts.{is_eventless}
use Rattle.apex_pictures.specs.Laws.{EventlessCellsStay}

-- without a notice, the roster is the one that was
abbrev IsUntouched : Roster → Roster → List Notice → Type 0
IsUntouched was roster notices = notices ≡ [] → roster ≡ was

told : (before more : List Notice) → 0 < length more → before ++ more ≡ [] → ⊥
told before more some none = omega (arith, some, ap length none, length-append before more)

-- each miss and each due has a notice
miss_told : (was roster : Roster) (before : List Notice) (p : ℕ) → first_missed roster ≡ Some p → IsUntouched was roster before
    → IsUntouched was (serve_missed roster p).roster (before ++ (serve_missed roster p).notices)
miss_told was roster before p next untouched = λ none.
    absurd (told before (serve_missed roster p).notices (omega arith) none)

over_told : (roster : Roster) (p : ℕ) (wait : Option Wait) → length (wait_over roster p wait).notices ≡ 1
over_told roster p (Some Time) = refl
over_told roster p (Some Start) = refl
over_told roster p (Some Period) = refl
over_told roster p _ = refl

due_told : (was roster : Roster) (before : List Notice) (p : ℕ) → first_due roster ≡ Some p → IsUntouched was roster before
    → IsUntouched was (serve_due roster p).roster (before ++ (serve_due roster p).notices)
due_told was roster before p next untouched = λ none.
    absurd (told before (serve_due roster p).notices
    (omega (arith, over_told (without_due roster p) p (record_at roster p).wait)) none)

idle_instant : (roster : Roster) → (serve_instant roster).notices ≡ [] → (serve_instant roster).roster ≡ roster
idle_instant roster none =
    let missed = serve_deadlines roster in
    let first = holds_in_turn first_missed serve_missed (IsUntouched roster) (miss_told roster) (length roster.records) roster [] (λ _. refl) in
    holds_in_turn first_due serve_due (IsUntouched roster) (due_told roster) (length missed.roster.records) missed.roster missed.notices first none

-- at a tick without a notice only time goes on
idle_tick : (roster : Roster) (objects : Objects) (n : ℕ) → (tick_deed roster objects n).outcome.notices ≡ []
    → (tick_deed roster objects n).outcome.roster ≡ advance_to roster (tick_goal roster n)
unfolding pass_time
idle_tick roster objects n none = idle_instant (advance_to roster (tick_goal roster n)) none

-- a turn without a call is idle
idle_script : (table : Table) (roster : Roster) (objects : Objects) (p : ℕ) (step : Option Call)
    → is_none (script_deed table roster objects p step).call ≡ true → (script_deed table roster objects p step).outcome.roster ≡ roster
idle_script table roster objects p None idle = cc
idle_script table roster objects p (Some call) idle = cc

idle_chosen : (table : Table) (roster : Roster) (objects : Objects) (found : Option ℕ)
    → is_none (chosen_deed table roster objects found).call ≡ true → (chosen_deed table roster objects found).outcome.roster ≡ roster
idle_chosen table roster objects None idle = refl
idle_chosen table roster objects (Some p) idle = idle_script table roster objects p (step_of table roster p) idle

idle_turn : (table : Table) (roster : Roster) (objects : Objects) (core : ℕ) (begun : Option OpenWork) (due : Option Call)
    → is_none (turn_deed table roster objects core begun due).call ≡ true
    → (turn_deed table roster objects core begun due).outcome.roster ≡ roster
idle_turn table roster objects core (Some begun) due idle = cc
idle_turn table roster objects core None (Some call) idle = cc
idle_turn table roster objects core None None idle = idle_chosen table roster objects (chosen roster core) idle

-- the cells of the processes of a roster
abbrev cells_in : Roster → List Cell
cells_in roster = of_places (cell_of roster) (length roster.records)

-- the entry of an event, and what its deed leaves
module _ (table : Table) (machine : Machine) where
  abbrev added : Event → Entry
  added event = entry_of (length machine.history + 1) (who_of event) (deed_at table machine (objects_after table machine.history) event)

  cells_stay : (event : Event) → is_eventless (added event) ≡ true → cells_in (happened table machine event).roster ≡ cells_in machine.roster
  cells_stay (Turn core) idle =
      let objects = objects_after table machine.history in
      let due = due_call table (situation_of table machine) core in
      let parts = and_parts (is_none (added (Turn core)).call) (length (added (Turn core)).notices == 0) idle in
      ap cells_in (idle_turn table machine.roster objects core (open_work machine core) due parts.0)
  cells_stay (Tick n) idle =
      let objects = objects_after table machine.history in
      let parts = and_parts (is_none (added (Tick n)).call) (length (added (Tick n)).notices == 0) idle in
      let none = nil_from_length (added (Tick n)).notices (eqb-true _ _ parts.1) in
      ap cells_in (idle_tick machine.roster objects n none)

-- no cell changes in a column, if its entry is idle
abbrev IsStill : Column → Type 0
IsStill column = is_eventless column.entry ≡ true → column.after.cells ≡ column.before.cells

last_put : {A : Type 0} (o : Option A) (xs : List A) (x : A) → last_or o (xs ++ x ∷ []) ≡ Some x
last_put o [] x = refl
last_put o (y ∷ xs) x = last_put (Some y) xs x

still_accept : (table : Table) (machine : Machine) → IsPictured table machine → (event : Event)
    → All IsStill (picture table machine) → All IsStill (picture table (accept table machine event))
still_accept table machine pictured event still = elim (cases_lt (length machine.history) table.limit) [
  | inl room ↦
      let new = accept table machine event in
      let entry = added table machine event in
      let whole : new ≡ happened table machine event = accept-room table machine event room ∙ happens table machine event in
      let latest : last_or None new.history ≡ Some entry =
      ap (λ (m : Machine). last_or None m.history) whole ∙ last_put None machine.history entry in
      subst (All IsStill) (sym (column_more table machine pictured event new entry room refl latest))
      (All-push IsStill (picture table machine) _ still
      (λ idle. ap (λ (m : Machine). cells_in m.roster) whole ∙ cells_stay table machine event idle))
  | inr full ↦ subst (λ (m : Machine). All IsStill (picture table m)) (sym (accept-full table machine event full)) still
]

still_run : (table : Table) (events : List Event) (machine : Machine) → IsPictured table machine
    → All IsStill (picture table machine) → All IsStill (picture table (run table machine events))
still_run table [] machine pictured still = still
still_run table (event ∷ events) machine pictured still =
    still_run table events (accept table machine event) (pictured_accept table machine pictured event)
    (still_accept table machine pictured event still)

pub eventless_cells_stay : EventlessCellsStay
eventless_cells_stay table events = still_run table events (opening table) (pictured_opening table) (All-nil IsStill)
