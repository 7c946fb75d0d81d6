-- The choices of a store, in the standard's own words.
use Rattle.std.specs.Prelude.{◌≡◌, ◌≢◌, ℕ, ◌+◌, ◌*◌, ◌<◌, ◌≤◌, ◌<ℤ◌, ◌⊎◌, Bool, true, false, List, length, Option, None, Some, slice_get}
use Rattle.apex_store.specs.Terms.{Holding, Message, Mode, Queue, Record, Wait}
use Rattle.apex_types.specs.declared.modes.State.TheVariants.{Running}
use Rattle.apex_machine.specs.processes.Roster.{Roster, record_at}
use Rattle.apex_machine.specs.processes.Choice.{IsLeast}
use Rattle.apex_machine.specs.processes.Distinct.{IsStamped}
use Rattle.apex_machine.specs.processes.Dues.{IsAwaited, first_due, first_missed, next_instant}
use Rattle.apex_machine.specs.processes.Periods.{release_after}
use Rattle.apex_machine.specs.processes.Running.{chosen, current_priority, is_before, is_eligible, process_state, runs_on}
use Rattle.apex_machine.specs.processes.Stamps as stamps
use Rattle.apex_machine.specs.processes.Waiters.{discipline_of, first_waiter, next_waiter, queue_in, waits_before, waits_behind, waits_in}

-- the record that is found passes and is before every other one that passes, and no other record is
-- so; if none is found, none passes
pub record IsTheLeast (passes : Record → Bool) (before : Record → Record → Bool) (rs : List Record)
    (found : Option ℕ) : Type 0 where
  pub least : (p : ℕ) → found ≡ Some p → (r : Record) × IsLeast passes before rs p r
  pub only : (p : ℕ) (r : Record) → IsLeast passes before rs p r → found ≡ Some p
  pub none : found ≡ None → (p : ℕ) (r : Record) → slice_get rs p ≡ Some r → passes r ≡ false

-- the chosen process of a core is eligible, bound to the core, and before every other such process
abbrev pub ChosenIsFirst : Roster → ℕ → Type 0
ChosenIsFirst roster core =
    IsTheLeast (runs_on roster.mode core) is_before roster.records (chosen roster core)

-- the first waiter is in the queue, and before every other one there by the queue's discipline
abbrev pub FirstWaiterIsFirst : Roster → Queue → Type 0
FirstWaiterIsFirst roster queue =
    IsTheLeast (waits_in queue) (waits_before (discipline_of roster queue)) roster.records
    (first_waiter roster queue)

-- the next waiter is behind process p in the queue, and in front of every other process behind p
abbrev pub NextWaiterIsNext : Roster → Queue → ℕ → Type 0
NextWaiterIsNext roster queue p =
    let discipline = discipline_of roster queue in
    IsTheLeast (waits_behind discipline queue (record_at roster p))
    (waits_before discipline) roster.records (next_waiter roster queue p)

-- process p is eligible and bound to the core
pub record MayRun (roster : Roster) (core p : ℕ) : Type 0 where
  pub known : p < length roster.records
  pub eligible : is_eligible roster.mode (record_at roster p) ≡ true
  pub bound : (record_at roster p).core ≡ core

-- r has the greater current priority, or an equal one and has been ready for longer
abbrev pub IsMoreUrgent : Record → Record → Type 0
IsMoreUrgent r s =
    (current_priority s < current_priority r)
    ⊎ ((current_priority r ≡ current_priority s) × (r.since <ℤ s.since))

-- each core's running process is the highest-priority, longest-ready one bound to it
pub record RunsMostUrgent (roster : Roster) (core : ℕ) : Type 0 where
  pub running : (p : ℕ) → chosen roster core ≡ Some p → MayRun roster core p
  pub first : (p q : ℕ) → chosen roster core ≡ Some p → MayRun roster core q → q ≢ p
      → IsMoreUrgent (record_at roster p) (record_at roster q)
  pub idle : chosen roster core ≡ None → (p : ℕ) → ¬ (MayRun roster core p)

-- a process is in the queue of its wait, and in no other
pub record WaitsInOneQueue (r : Record) : Type 0 where
  pub own : (queue : Queue) → queue_in r ≡ Some queue → waits_in queue r ≡ true
  pub only : (queue : Queue) → waits_in queue r ≡ true → queue_in r ≡ Some queue

-- a core runs one process at the most
abbrev pub RunsOneProcess : Roster → Type 0
RunsOneProcess roster =
    (p q : ℕ) →
    process_state roster p ≡ Running →
    process_state roster q ≡ Running → (record_at roster p).core ≡ (record_at roster q).core → p ≡ q

-- a process is running exactly if it is the chosen one of its core
pub record RunningIsChosen (roster : Roster) (p : ℕ) : Type 0 where
  pub found : process_state roster p ≡ Running → chosen roster (record_at roster p).core ≡ Some p
  pub running : (core : ℕ) → chosen roster core ≡ Some p → process_state roster p ≡ Running
  pub bound : (core : ℕ) → chosen roster core ≡ Some p → (record_at roster p).core ≡ core

-- the next instant is the due or the deadline of a process and no later than any other one; if
-- there is none, no process has a due or a deadline
pub record NextInstantIsLeast (roster : Roster) : Type 0 where
  pub awaited : (t : ℕ) → next_instant roster ≡ Some t
      → (p : ℕ) × (p < length roster.records) × IsAwaited (record_at roster p) t
  pub least : (t : ℕ) → next_instant roster ≡ Some t → (q u : ℕ) → IsAwaited (record_at roster q) u
      → t ≤ u
  pub none : next_instant roster ≡ None → (q u : ℕ) → ¬ (IsAwaited (record_at roster q) u)

-- the first process that is due is due now and has the lowest number of those that are; if there is
-- none, no process is due now
pub record FirstDueIsLowest (roster : Roster) : Type 0 where
  pub now : (p : ℕ) → first_due roster ≡ Some p → (record_at roster p).due ≡ Some roster.now
  pub lowest : (p q : ℕ) → first_due roster ≡ Some p → (record_at roster q).due ≡ Some roster.now
      → p ≤ q
  pub none : first_due roster ≡ None → (q : ℕ) → (record_at roster q).due ≢ Some roster.now

-- the first process that misses a deadline misses it now and has the lowest number of those that
-- do; if there is none, no deadline is now
pub record FirstMissedIsLowest (roster : Roster) : Type 0 where
  pub now : (p : ℕ) → first_missed roster ≡ Some p → (record_at roster p).deadline ≡ Some roster.now
  pub lowest : (p q : ℕ) → first_missed roster ≡ Some p
      → (record_at roster q).deadline ≡ Some roster.now → p ≤ q
  pub none : first_missed roster ≡ None → (q : ℕ) → (record_at roster q).deadline ≢ Some roster.now

-- this instant is above now and n periods after the release, n at least 1, and no such instant is
-- sooner
pub record IsNextRelease (now release period t : ℕ) : Type 0 where
  pub later : now < t
  pub whole : (k : ℕ) × (1 ≤ k) × (t ≡ release + k * period)
  pub least : (k : ℕ) → 1 ≤ k → now < release + k * period → t ≤ release + k * period

-- if process p has a period, it has a next release, the next instant of its releases; without a
-- period it has none
pub record NextReleaseIsLeast (roster : Roster) (p : ℕ) : Type 0 where
  pub periodic : (period : ℕ) → 1 ≤ period
      → (record_at roster p).attributes.period ≡ Some period
      → (t : ℕ) × (release_after roster.now (record_at roster p) ≡ Some t)
      × IsNextRelease roster.now (record_at roster p).release period t
  pub aperiodic : (record_at roster p).attributes.period ≡ None
      → release_after roster.now (record_at roster p) ≡ None

-- no call of a store gives two of its processes the same stamp
pub record StampsStayDistinct (roster : Roster) : Type 0 where
  pub start : (p delay : ℕ) → p < length roster.records → IsStamped (stamps.start roster p delay)
  pub stop : (p : ℕ) → p < length roster.records → IsStamped (stamps.stop roster p)
  pub block : (p : ℕ) (wait : Wait) (due : Option ℕ) → p < length roster.records
      → IsStamped (stamps.block roster p wait due)
  pub unblock : (p : ℕ) → p < length roster.records → IsStamped (stamps.unblock roster p)
  pub release : (p : ℕ) → p < length roster.records → IsStamped (stamps.release roster p)
  pub suspend : (p : ℕ) → p < length roster.records → IsStamped (stamps.suspend roster p)
  pub suspend_self : (p : ℕ) (due : Option ℕ) → p < length roster.records
      → IsStamped (stamps.suspend_self roster p due)
  pub resume : (p : ℕ) → p < length roster.records → IsStamped (stamps.resume roster p)
  pub set_priority : (p base : ℕ) → p < length roster.records
      → IsStamped (stamps.set_priority roster p base)
  pub own : (p : ℕ) (owned : List Holding) → p < length roster.records
      → IsStamped (stamps.own roster p owned)
  pub inherit : (p : ℕ) (holding : Holding) → p < length roster.records
      → IsStamped (stamps.inherit roster p holding)
  pub place_newest : (p : ℕ) → p < length roster.records → IsStamped (stamps.place_newest roster p)
  pub advance_to : (t : ℕ) → IsStamped (stamps.advance_to roster t)
  pub set_deadline : (p : ℕ) (deadline : Option ℕ) → p < length roster.records
      → IsStamped (stamps.set_deadline roster p deadline)
  pub take_missed : IsStamped (stamps.take_missed roster)
  pub take_due : IsStamped (stamps.take_due roster)
  pub set_mode : (mode : Mode) → IsStamped (stamps.set_mode roster mode)
  pub set_core : (p core : ℕ) → p < length roster.records
      → IsStamped (stamps.set_core roster p core)
  pub receive : (p : ℕ) (message : Message) → p < length roster.records
      → IsStamped (stamps.receive roster p message)
  pub set_step : (p step : ℕ) → p < length roster.records
      → IsStamped (stamps.set_step roster p step)
