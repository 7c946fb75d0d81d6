-- The changes of records, and the stamps that processes take (this profile).
use Rattle.std.specs.Prelude.{◌≡◌, ℕ, ◌+◌, Bool, true, false, Option, None, Some, pos, ◌+ℤ◌, ◌-ℤ◌, ◌<ℤ◌, List, [], ◌∷◌, not, ◌==◌, ◌&&◌, ◌||◌, slice_set, if◌then◌else◌}
use Rattle.apex_types.specs.Limits.{most_stamped, most_stamps}
use Rattle.apex_machine.specs.Terms.{Holding, Message, Mode, Record, Suspender, Wait}
use Rattle.apex_machine.specs.declared.records.Queue.TheVariants as queues
use Rattle.apex_machine.specs.declared.records.Suspender.TheVariants.{Itself, Other}
use Rattle.apex_machine.specs.declared.records.Wait.TheVariants.{Normal, Start, Period}
use Rattle.apex_machine.specs.processes.Owners.{owns_some}
use Rattle.apex_types.specs.Modes.{is_normal}
use Rattle.apex_machine.specs.processes.Roster.{Roster, record_at, with_record}
use Rattle.apex_machine.specs.processes.Running.{current_priority, is_eligible}
use Rattle.apex_machine.specs.processes.Waiters.{goes_by_priority, queue_in}
use Rattle.apex_machine.specs.processes.Dues.{first_due, first_missed}
use Rattle.apex_machine.specs.processes.Periods.{deadline_from, release_after}

-- there are stamps left, upwards and downwards: no history is long enough to use them up
pub record HasStamps (roster : Roster) : Type 0 where
  pub young : roster.young <ℤ pos most_stamps
  pub old : pos 0 <ℤ (roster.old +ℤ pos most_stamps)

-- there are `many` stamps left, upwards and downwards
pub record HasStampsFor (many : ℕ) (roster : Roster) : Type 0 where
  pub young : (roster.young +ℤ pos many) <ℤ pos most_stamps
  pub old : pos many <ℤ (roster.old +ℤ pos most_stamps)

-- there are stamps left, upwards and downwards, for all that one event may stamp
pub record HasManyStamps (roster : Roster) : Type 0 where
  pub young : (roster.young +ℤ pos most_stamped) <ℤ pos most_stamps
  pub old : pos most_stamped <ℤ (roster.old +ℤ pos most_stamps)

-- process p has this record with the next stamp upwards: it is the newest
abbrev pub newest : Roster → ℕ → Record → Roster
newest roster p r = record roster {
  records = slice_set roster.records p (record r { since = roster.young });
  young = roster.young +ℤ pos 1;
}

-- process p has this record with the next stamp downwards: it is the oldest
abbrev pub oldest : Roster → ℕ → Record → Roster
oldest roster p r = record roster {
  records = slice_set roster.records p (record r { since = roster.old });
  old = roster.old -ℤ pos 1;
}

-- process p has this record, and is the newest if the record is eligible
abbrev pub readied : Roster → ℕ → Record → Roster
readied roster p r = if is_eligible roster.mode r then newest roster p r else with_record roster p r

-- the process suspended itself
abbrev pub is_by_itself : Option Suspender → Bool
is_by_itself (Some Itself) = true
is_by_itself _ = false

-- a suspension by another process stays when the process wakes, and one by itself ends
abbrev pub suspension_awake : Option Suspender → Option Suspender
suspension_awake (Some Other) = Some Other
suspension_awake _ = None

-- a process that wakes: it waits for nothing, and is not suspended by itself
abbrev pub awake : Record → Record
awake r = record r { suspended = suspension_awake r.suspended; wait = None; due = None }

-- the process's wait, or its suspension of itself, ends
abbrev pub unblock : Roster → ℕ → Roster
unblock roster p = readied roster p (awake (record_at roster p))

-- a process that is released at this instant: it waits for nothing, and its deadline begins to run
abbrev pub released_at : ℕ → Record → Record
released_at t r = record (awake r) { release = t; deadline = deadline_from t r }

-- release: the process is released now
abbrev pub release : Roster → ℕ → Roster
release roster p = readied roster p (released_at roster.now (record_at roster p))

-- a process may begin to wait: it is started, and waits for nothing or for NORMAL
abbrev pub is_free : Option Wait → Bool
is_free None = true
is_free (Some (Normal delay)) = true
is_free _ = false

abbrev pub may_wait : Record → Bool
may_wait r = r.started && is_free r.wait

-- a process that waits, until the due if there is one, and is not suspended by itself
abbrev pub waiting : Record → Wait → Option ℕ → Record
waiting r wait due =
    record r { suspended = suspension_awake r.suspended; wait = Some wait; due = due }

-- the process begins to wait
abbrev pub block : Roster → ℕ → Wait → Option ℕ → Roster
block roster p wait due = newest roster p (waiting (record_at roster p) wait due)

-- a process at its start: not suspended, at the table's priority and at the first step, with an
-- empty inbox
abbrev pub reset : Record → Record
reset r =
    record r {
      base = r.attributes.priority;
      started = true;
      suspended = None;
      step = 0;
      inbox = None;
    }

-- a start begins: with a delay of 0 the process is released, else it waits for its start until the
-- delay is over
abbrev pub begin : Roster → ℕ → ℕ → Roster
begin roster p delay =
    if delay == 0 then release roster p else block roster p Start (Some (roster.now + delay))

-- START, after a delay: the process is reset; in NORMAL its start begins, else it waits for NORMAL
abbrev pub start : Roster → ℕ → ℕ → Roster
start roster p delay =
    let fresh = with_record roster p (reset (record_at roster p)) in
    if is_normal roster.mode then begin fresh p delay else block fresh p (Normal delay) None

-- a stop: not started, not suspended, waits for nothing, has no deadline and owns nothing, at the
-- first step, with an empty inbox
abbrev pub stopped : Record → Record
stopped r =
    record r {
      started = false;
      suspended = None;
      wait = None;
      due = None;
      deadline = None;
      owned = [];
      step = 0;
      inbox = None;
    }

-- the process is stopped; no process takes a stamp
abbrev pub stop : Roster → ℕ → Roster
stop roster p = with_record roster p (stopped (record_at roster p))

-- another process suspends the process; no process takes a stamp, and a wait goes on
abbrev pub suspend : Roster → ℕ → Roster
suspend roster p = with_record roster p (record (record_at roster p) { suspended = Some Other })

-- a process suspended by itself, until the due if there is one
abbrev pub self_suspended : Record → Option ℕ → Record
self_suspended r due = record r { suspended = Some Itself; wait = None; due = due }

-- the process suspends itself
abbrev pub suspend_self : Roster → ℕ → Option ℕ → Roster
suspend_self roster p due = newest roster p (self_suspended (record_at roster p) due)

-- a process that is no longer suspended; its wait goes on
abbrev pub unsuspended : Record → Record
unsuspended r = record r { suspended = None }

-- the process is no longer suspended: if it suspended itself it wakes, else its wait goes on
abbrev pub resume : Roster → ℕ → Roster
resume roster p =
    let r = record_at roster p in
    if is_by_itself r.suspended then unblock roster p else readied roster p (unsuspended r)

-- two records of one current priority
abbrev pub is_level : Record → Record → Bool
is_level r s = current_priority r == current_priority s

-- rule "set priority": the process has this base priority, and becomes the newest if it waits in a
-- queue in which the more urgent comes first, or is eligible; but an eligible owner of a mutex
-- keeps its stamp if its current priority stays
abbrev pub set_priority : Roster → ℕ → ℕ → Roster
set_priority roster p base =
    let r = record_at roster p in
    let changed : Record = record r { base = base } in
    let stays = owns_some r && is_level changed r in
    let moves = (is_eligible roster.mode r && not stays) || goes_by_priority roster (queue_in r) in
    if moves then newest roster p changed else with_record roster p changed

-- process p has this record, and is the oldest if that changes its current priority
abbrev pub levelled : Roster → ℕ → Record → Roster
levelled roster p r =
    if is_level r (record_at roster p) then with_record roster p r else oldest roster p r

-- process p owns these mutexes from now on
abbrev pub own : Roster → ℕ → List Holding → Roster
own roster p owned = levelled roster p (record (record_at roster p) { owned = owned })

-- process p, which owned none and waited for this mutex, owns it and wakes
abbrev pub inherit : Roster → ℕ → Holding → Roster
inherit roster p holding =
    readied roster p (awake (record (record_at roster p) { owned = holding ∷ [] }))

-- the process goes behind all others of its priority
abbrev pub place_newest : Roster → ℕ → Roster
place_newest roster p = newest roster p (record_at roster p)

-- time goes on to this instant
abbrev pub advance_to : Roster → ℕ → Roster
advance_to roster t = record roster { now = t }

-- the process no longer has a due
abbrev pub without_due : Roster → ℕ → Roster
without_due roster p = with_record roster p (record (record_at roster p) { due = None })

-- if there is such a process it no longer has a due
abbrev pub without_due_of : Roster → Option ℕ → Roster
without_due_of roster None = roster
without_due_of roster (Some p) = without_due roster p

-- the first process whose due is now no longer has it
abbrev pub take_due : Roster → Roster
take_due roster = without_due_of roster (first_due roster)

-- the process has this deadline from now on, or none
abbrev pub set_deadline : Roster → ℕ → Option ℕ → Roster
set_deadline roster p deadline =
    with_record roster p (record (record_at roster p) { deadline = deadline })

-- if there is such a process it no longer has a deadline
abbrev pub without_deadline_of : Roster → Option ℕ → Roster
without_deadline_of roster None = roster
without_deadline_of roster (Some p) = set_deadline roster p None

-- the first process whose deadline is now no longer has it
abbrev pub take_missed : Roster → Roster
take_missed roster = without_deadline_of roster (first_missed roster)

-- a periodic process waits for its next release, and has no deadline until then
abbrev pub await_release : Roster → ℕ → Roster
await_release roster p =
    block (set_deadline roster p None) p Period (release_after roster.now (record_at roster p))

-- the partition goes to this mode
abbrev pub set_mode : Roster → Mode → Roster
set_mode roster mode = record roster { mode = mode }

-- the process is bound to this core
abbrev pub set_core : Roster → ℕ → ℕ → Roster
set_core roster p core = with_record roster p (record (record_at roster p) { core = core })

-- the process's next step is this one, counted from 0
abbrev pub set_step : Roster → ℕ → ℕ → Roster
set_step roster p step = with_record roster p (record (record_at roster p) { step = step })

-- the process has received this message
abbrev pub receive : Roster → ℕ → Message → Roster
receive roster p message =
    with_record roster p (record (record_at roster p) { inbox = Some message })

-- a process that is eligible in this mode is eligible already
abbrev pub ReadiesNobody : Roster → Mode → Type 0
ReadiesNobody roster mode = (p : ℕ)
    → is_eligible mode (record_at roster p) ≡ true
    → is_eligible roster.mode (record_at roster p) ≡ true

-- a process that suspended itself waits for nothing else
abbrev pub WaitsForOne : Roster → Type 0
WaitsForOne roster =
    (p : ℕ) → is_by_itself (record_at roster p).suspended ≡ true → (record_at roster p).wait ≡ None

-- a dormant process waits for nothing; before NORMAL a started process waits for NORMAL, and no
-- process has a due
pub record HasOrderlyStarts (roster : Roster) : Type 0 where
  pub dormant : (p : ℕ) → (record_at roster p).started ≡ false → (record_at roster p).wait ≡ None
  pub early : is_normal roster.mode ≡ false → (p : ℕ) → (record_at roster p).started ≡ true
      → queue_in (record_at roster p) ≡ Some queues.Normal
  pub undue : is_normal roster.mode ≡ false → (p : ℕ) → (record_at roster p).due ≡ None
