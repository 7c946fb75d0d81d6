-- Laws of whole runs, in the subject's own words.
use Rattle.std.specs.Prelude.{◌≡◌, ◌≢◌, ℕ, ◌≤◌, ◌<◌, true, false, List, [], ◌++◌, None, Some, count_by, length}
use Rattle.apex_laws.specs.Delivery.{receives_from, sent_to}
use Rattle.apex_laws.specs.Terms.{Entry, Event, Holding, Message, OpenWork}
use Rattle.apex_types.specs.declared.modes.DeadlineType.TheVariants.{Hard}
use Rattle.apex_machine.specs.declared.records.Wait.TheVariants.{Semaphore, Receive, Send, Blackboard, EventFlag, Mutex}
use Rattle.apex_machine.specs.processes.Dues.{HasNoPastDeadline, HasNoPastDue}
use Rattle.apex_types.specs.declared.limits.TheConstants.{MOST_DEPTH}
use Rattle.apex_machine.specs.processes.Held.{holding_of, is_of}
use Rattle.apex_machine.specs.table.Profiles.{owned_of}
use Rattle.apex_machine.specs.processes.Owners.{depth_of, owner, owns}
use Rattle.apex_machine.specs.processes.Periods.{IsReleased, IsWholePeriodsAfter}
use Rattle.apex_machine.specs.processes.Roster.{record_at}
use Rattle.apex_machine.specs.processes.Running.{current_priority}
use Rattle.apex_machine.specs.services.SemaphoreServices.{SemaphoreObject}
use Rattle.apex_machine.specs.table.Table.{Table, IsLawful, process_config, semaphore_config, buffer_config, mutex_config}
use Rattle.apex_machine.specs.services.Satisfied.{semaphore_value, buffer_content, blackboard_message, is_up}
use Rattle.apex_machine.specs.Machine.{Machine, run, opening, open_work, tick, events_of}
use Rattle.apex_laws.specs.AskedWaits.{IsAccounted}

-- the value of semaphore s accounts for all its satisfied calls, so that no more waits were served
-- than its initial value and its signals allow, and it is at most its maximum
pub record IsInRange (table : Table) (history : List Entry) (s : ℕ) : Type 0 where
  pub served : IsAccounted (semaphore_config table s).initial s history
  pub most : semaphore_value (semaphore_config table s).initial s history
      ≤ (semaphore_config table s).maximum

-- each semaphore is in range
abbrev pub AreInRange : Table → List Entry → Type 0
AreInRange table history = (s : ℕ) → s < length table.semaphores → IsInRange table history s

-- no more receives from buffer b were satisfied than messages were sent to it
abbrev pub HasServedNoMoreThanSent : List Entry → ℕ → Type 0
HasServedNoMoreThanSent history b = receives_from b history ≤ length (sent_to b history)

-- buffer b serves no more than was sent to it, and holds no more than it has room for; a receiver
-- waits only if it is empty, and a sender only if it is full
pub record BufferIsInRange (table : Table) (machine : Machine) (b : ℕ) : Type 0 where
  pub served : HasServedNoMoreThanSent machine.history b
  pub room : length (buffer_content b machine.history) ≤ (buffer_config table b).capacity
  pub receivers : (p : ℕ) → (record_at machine.roster p).wait ≡ Some (Receive b)
      → buffer_content b machine.history ≡ []
  pub senders : (p : ℕ) (message : Message)
      → (record_at machine.roster p).wait ≡ Some (Send b message)
      → length (buffer_content b machine.history) ≡ (buffer_config table b).capacity

-- a process that waits for semaphore s, for blackboard b or for event flag e waits only while the
-- semaphore's value is 0, the blackboard is empty or the event flag is down
abbrev pub WaitersWaitForSemaphores : Table → Machine → ℕ → Type 0
WaitersWaitForSemaphores table machine s =
    (p : ℕ) → (record_at machine.roster p).wait ≡ Some (Semaphore s)
    → semaphore_value (semaphore_config table s).initial s machine.history ≡ 0

abbrev pub ReadersWaitForMessages : Machine → ℕ → Type 0
ReadersWaitForMessages machine b = (p : ℕ) → (record_at machine.roster p).wait ≡ Some (Blackboard b)
    → blackboard_message b machine.history ≡ None

abbrev pub WaitersWaitForEventFlags : Machine → ℕ → Type 0
WaitersWaitForEventFlags machine e =
    (p : ℕ) → (record_at machine.roster p).wait ≡ Some (EventFlag e)
    → is_up e machine.history ≡ false

-- no process waits for an object that has what it waits for, and each buffer is in range
pub record NobodyWaitsInVain (table : Table) (machine : Machine) : Type 0 where
  pub semaphores : (s : ℕ) → s < length table.semaphores → WaitersWaitForSemaphores table machine s
  pub buffers : (b : ℕ) → b < length table.buffers → BufferIsInRange table machine b
  pub blackboards : (b : ℕ) → b < length table.blackboards → ReadersWaitForMessages machine b
  pub event_flags : (e : ℕ) → e < length table.event_flags → WaitersWaitForEventFlags machine e

-- mutex m has one owner at the most, which owns it once, at the table's ceiling and at a depth of 1 to
-- 32, and whose current priority is at least that ceiling; no process owns more mutexes than its
-- profile allows; a process that waits for it owns none, and if no process owns it none waits for it
pub record MutexIsOwnedInOrder (table : Table) (machine : Machine) (m : ℕ) : Type 0 where
  pub one : (p q : ℕ) → owns m (record_at machine.roster p) ≡ true
      → owns m (record_at machine.roster q) ≡ true → p ≡ q
  pub once : (p : ℕ) → count_by (is_of m) (record_at machine.roster p).owned ≤ 1
  pub ceiling : (p : ℕ) (holding : Holding)
      → holding_of m (record_at machine.roster p).owned ≡ Some holding
      → holding.ceiling ≡ (mutex_config table m).ceiling
  pub raised : (p : ℕ) → owns m (record_at machine.roster p) ≡ true
      → (mutex_config table m).ceiling ≤ current_priority (record_at machine.roster p)
  pub depth : (p : ℕ) → owns m (record_at machine.roster p) ≡ true
      → let depth =
      depth_of (holding_of m (record_at machine.roster p).owned) in (1 ≤ depth)
      × (depth ≤ MOST_DEPTH)
  pub most : (p : ℕ) → length (record_at machine.roster p).owned ≤ owned_of table.profile
  pub waiters : (p : ℕ) → (record_at machine.roster p).wait ≡ Some (Mutex m)
      → (record_at machine.roster p).owned ≡ []
  pub free : owner machine.roster m ≡ None → (p : ℕ)
      → (record_at machine.roster p).wait ≢ Some (Mutex m)

-- each mutex is owned in order
abbrev pub MutexesAreOwnedInOrder : Table → Machine → Type 0
MutexesAreOwnedInOrder table machine =
    (m : ℕ) → m < length table.mutexes → MutexIsOwnedInOrder table machine m

-- in every run each semaphore's value stays from 0 to its maximum
abbrev pub ValuesStayInRange : Table → Type 0
ValuesStayInRange table =
    (events : List Event) → AreInRange table (run table (opening table) events).history

-- a run over some events and then others is a run over the first, and then over the others
abbrev pub RunsCompose : Table → Machine → Type 0
RunsCompose table machine = (first rest : List Event)
    → run table machine (first ++ rest) ≡ run table (run table machine first) rest

-- the history never grows past its limit
abbrev pub RunsStayWithin : Table → Type 0
RunsStayWithin table =
    (events : List Event) → length (run table (opening table) events).history ≤ table.limit

-- the events that the history of a run records, run anew, give the same state and the same history
abbrev pub HistoriesReplay : Table → Type 0
HistoriesReplay table = (events : List Event) →
    let machine = run table (opening table) events in run table (opening table)
    (events_of machine.history) ≡ machine

-- in every run time never goes back, and no due and no deadline is below now
pub record TimeGoesForward (table : Table) : Type 0 where
  pub forward : (first rest : List Event)
      → (run table (opening table) first).roster.now
      ≤ (run table (opening table) (first ++ rest)).roster.now
  pub dues : (events : List Event) → HasNoPastDue (run table (opening table) events).roster
  pub deadlines : (events : List Event)
      → HasNoPastDeadline (run table (opening table) events).roster

-- from one moment of a run on process p has been released since its start, and isn't stopped
abbrev pub StaysReleased : Table → List Event → List Event → ℕ → Type 0
StaysReleased table first rest p = (some others : List Event) → rest ≡ some ++ others
    → IsReleased (record_at (run table (opening table) (first ++ some)).roster p)

-- in every run a process is released whole periods after the release before, as long as it isn't
-- stopped; so all its releases since its start are whole periods after the first one
abbrev pub ReleasesLieInPeriods : Table → Type 0
ReleasesLieInPeriods table = (first rest : List Event) (p : ℕ) → StaysReleased table first rest p
    → IsWholePeriodsAfter (process_config table p).attributes.period
    (record_at (run table (opening table) first).roster p).release
    (record_at (run table (opening table) (first ++ rest)).roster p).release

-- in every run a process whose deadline is HARD, and passes at a tick, is dormant after that tick
abbrev pub HardMissesStop : Table → Type 0
HardMissesStop table = (events : List Event) (n p t : ℕ) →
    let before = run table (opening table) events in
    let after = tick table before n in
    (process_config table p).attributes.deadline ≡ Hard
    → (record_at before.roster p).deadline ≡ Some t
    → t ≤ after.roster.now → (record_at after.roster p).started ≡ false

-- in every run a process with work open on a core is bound to that core
abbrev pub WorkersStay : Table → Type 0
WorkersStay table = (events : List Event) (core : ℕ) (o : OpenWork) →
    let machine = run table (opening table) events in
    open_work machine core ≡ Some o → (record_at machine.roster o.work.process).core ≡ core

-- at no moment of the machine's history was time later than it is now
abbrev pub WasNeverLater : Table → Machine → Type 0
WasNeverLater table machine = (first rest : List Event) → events_of machine.history ≡ first ++ rest
    → (run table (opening table) first).roster.now ≤ machine.roster.now

-- the semaphore's running value is at most its maximum
abbrev pub IsWithinItsMaximum : SemaphoreObject → Type 0
IsWithinItsMaximum semaphore = semaphore.value ≤ semaphore.maximum

-- in every run no process waits for an object that has what it waits for
abbrev pub NobodyEverWaitsInVain : Table → Type 0
NobodyEverWaitsInVain table =
    (events : List Event) → NobodyWaitsInVain table (run table (opening table) events)

-- in every run each mutex is owned in order
abbrev pub MutexesStayOwnedInOrder : Table → Type 0
MutexesStayOwnedInOrder table =
    (events : List Event) → MutexesAreOwnedInOrder table (run table (opening table) events)

-- the law holds of every lawful table
abbrev pub OfEachTable : (Table → Type 0) → Type 0
OfEachTable law = (table : Table) → IsLawful table → law table
