-- The deadlines at a tick: each miss has its notice, and one of a HARD deadline stops the process.
use Rattle.std.proofs.Common.{◌≡◌, ℕ, ◌+◌, ◌*◌, ◌<◌, ◌≤◌, Bool, true, false, ◌||◌, List, [], ◌∷◌, length, ℤ, Option, None, Some, refl, ◌∙◌, subst, arith, length-append}
use Rattle.std.proofs.lemmas.Bool.{eq-eqb}
use Rattle.std.proofs.lemmas.List.Sums.{count_by-le-length}
use Rattle.std.proofs.lemmas.Option.{none-some}
use Rattle.apex_laws.specs.Premises.{due_count}
use Rattle.apex_laws.specs.Terms.{DeadlineType, Holding, Notice, Record, Wait}
use Rattle.apex_types.specs.declared.modes.DeadlineType.TheVariants.{Soft, Hard}
use Rattle.apex_machine.specs.declared.records.Queue.TheVariants as queues
use Rattle.apex_machine.specs.declared.records.Wait.TheVariants.{Mutex}
use Rattle.apex_machine.specs.processes.Dues.{first_missed, is_due_at, is_missed_at}
use Rattle.apex_types.specs.declared.entries.Notice.TheVariants.{Missed}
use Rattle.apex_machine.specs.services.Handovers.{halted, hand_on, hand_over, hand_to}
use Rattle.apex_machine.specs.processes.Held.{in_order}
use Rattle.apex_machine.specs.services.InTurn.{behind}
use Rattle.apex_machine.specs.processes.Roster.{Roster, record_at}
use Rattle.apex_machine.specs.processes.Stamps.{HasOrderlyStarts, awake, set_deadline, stop, stopped}
use Rattle.apex_machine.specs.Ticks.{miss, serve_missed, serve_deadlines}
use Rattle.apex_machine.specs.processes.Waiters.{first_waiter}
use Rattle.apex_machine.proofs.Dues.{first_missed_now, first_missed_within}
use Rattle.apex_machine.proofs.Handovers.{mutex_wait, reaches_halted}
use Rattle.apex_machine.proofs.InTurn.{holds_in_turn}
use Rattle.apex_machine.proofs.Reaches.{Reaches, reaches_more, reaches_none, reaches_then, reaches_set_deadline, reaches_told}
use Rattle.apex_machine.proofs.Rosters.{at_record}
use Rattle.apex_machine.proofs.Starts.{first_stands, first_within}
use Rattle.apex_laws.proofs.Counts.{count, count_more, counted, counted_readied}
use Rattle.apex_laws.proofs.Truths.{or_true}

-- the deadline of process p is now
module _ (roster : Roster) (p : ℕ) (starts : HasOrderlyStarts roster) (is : first_missed roster ≡ Some p) where
  abbrev cleared : Roster
  cleared = set_deadline roster p None

  known : p < length roster.records
  known = first_missed_within roster p is

  reach_cleared : Reaches 0 roster cleared
  reach_cleared = reaches_set_deadline roster p known None (λ t e. absurd (none-some t e))

  -- a miss stamps at most as often as it tells
  reach_miss : (kind : DeadlineType) → Reaches (length (miss cleared p kind).notices) cleared (miss cleared p kind).roster
  reach_miss Soft = reaches_none 0 cleared
  reach_miss Hard = reaches_halted cleared p (rw reach_cleared.moves.many known) (reach_cleared.moves.starts starts)

  pub reach_serve_missed : Reaches (length (serve_missed roster p).notices) roster (serve_missed roster p).roster
  reach_serve_missed =
      let kind = (record_at roster p).attributes.deadline in
      let told = length (miss cleared p kind).notices in
      reaches_more (0 + told) (length (serve_missed roster p).notices) (omega arith) (reaches_then 0 told reach_cleared (reach_miss kind))

pub reach_serve_deadlines : (roster : Roster) → HasOrderlyStarts roster
    → Reaches (length (serve_deadlines roster).notices) roster (serve_deadlines roster).roster
reach_serve_deadlines roster starts =
    reaches_told first_missed serve_missed HasOrderlyStarts
    (λ r p before is. (reach_serve_missed r p before is).moves.starts before) reach_serve_missed
    (length roster.records) roster starts

-- a process may be woken or released at this instant: it is due then, or waits for a mutex
unfoldable pub is_for_mutex : Option Wait → Bool
is_for_mutex (Some (Mutex m)) = true
is_for_mutex _ = false

unfoldable pub may_wake : ℕ → Record → Bool
may_wake t r = is_due_at t r || is_for_mutex r.wait

may_wake_ageless : (t : ℕ) (r : Record) (since : ℤ) → may_wake t (record r { since = since }) ≡ may_wake t r
unfolding may_wake is_due_at
may_wake_ageless t r since = refl

missed_ageless : (t : ℕ) (r : Record) (since : ℤ) → is_missed_at t (record r { since = since }) ≡ is_missed_at t r
unfolding is_missed_at
missed_ageless t r since = refl

-- with n new notices n processes fewer may be woken, and no more miss their deadline than before
record Lessens (t told : ℕ) (old new : Roster) : Type 0 where
  wakes : told + count (may_wake t) new ≤ count (may_wake t) old
  misses : count (is_missed_at t) new ≤ count (is_missed_at t) old

module _ (t : ℕ) where
  -- a wait that ends, and a deadline that stays
  awake_wakes : (r : Record) → may_wake t (awake r) ≡ false
  unfolding may_wake is_due_at is_for_mutex
  awake_wakes r = refl

  awake_misses : (r : Record) (owned : List Holding) → is_missed_at t (awake (record r { owned = owned })) ≡ is_missed_at t r
  unfolding is_missed_at
  awake_misses r owned = refl

  mutex_wakes : (r : Record) (m : ℕ) → r.wait ≡ Some (Mutex m) → may_wake t r ≡ true
  unfolding may_wake is_for_mutex is_due_at
  mutex_wakes r m is = rw is (or_true (is_due_at t r))

  less_none : (roster : Roster) → Lessens t 0 roster roster
  less_none roster = record { wakes = omega arith; misses = omega arith }

  less_handed : (roster : Roster) (holding : Holding) (found : Option ℕ) → first_waiter roster (queues.Mutex holding.mutex) ≡ found
      → Lessens t (length (hand_to roster holding found).notices) roster (hand_to roster holding found).roster
  less_handed roster holding None is = less_none roster
  less_handed roster holding (Some q) is =
      let queue = queues.Mutex holding.mutex in
      let owned : List Holding = record holding { depth = 1 } ∷ [] in
      let r : Record = awake (record (record_at roster q) { owned = owned }) in
      let within = first_within roster queue q is in
      let waits = mutex_wakes (record_at roster q) holding.mutex (mutex_wait (record_at roster q).wait holding.mutex (first_stands roster queue q is)) in
      let woken = counted_readied (may_wake t) (may_wake_ageless t) roster q within r in
      let missed = counted_readied (is_missed_at t) (missed_ageless t) roster q within r in
      record {
        wakes = omega (arith, rw (waits, awake_wakes (record (record_at roster q) { owned = owned })) at woken);
        misses = omega (arith, rw (awake_misses (record_at roster q) owned) at missed);
      }

  less_handed_on : (held : List Holding) (roster : Roster) → Lessens t (length (hand_on held roster).notices) roster (hand_on held roster).roster
  less_handed_on [] roster = less_none roster
  less_handed_on (holding ∷ held) roster =
      let handed = hand_over roster holding in
      let others = hand_on held handed.roster in
      let first = less_handed roster holding (first_waiter roster (queues.Mutex holding.mutex)) refl in
      let second = less_handed_on held handed.roster in
      record {
        wakes = omega (arith, length-append handed.notices others.notices, first.wakes, second.wakes);
        misses = omega (arith, first.misses, second.misses);
      }

  stopped_wakes : (r : Record) → may_wake t (stopped r) ≡ false
  unfolding may_wake is_due_at is_for_mutex
  stopped_wakes r = refl

  stopped_misses : (r : Record) → is_missed_at t (stopped r) ≡ false
  unfolding is_missed_at
  stopped_misses r = refl

  less_stopped : (roster : Roster) (p : ℕ) → p < length roster.records → Lessens t 0 roster (stop roster p)
  less_stopped roster p within =
      let r = stopped (record_at roster p) in
      let woken = counted (may_wake t) (may_wake_ageless t) roster p within r in
      let missed = counted (is_missed_at t) (missed_ageless t) roster p within r in
      record {
        wakes = omega (arith, rw (stopped_wakes (record_at roster p)) at woken);
        misses = omega (arith, rw (stopped_misses (record_at roster p)) at missed);
      }

  less_missed : (roster : Roster) (p : ℕ) → p < length roster.records → (kind : DeadlineType)
      → Lessens t (length (miss roster p kind).notices) roster (miss roster p kind).roster
  less_missed roster p within Soft = less_none roster
  less_missed roster p within Hard =
      let first = less_stopped roster p within in
      let second = less_handed_on (in_order (record_at roster p).owned) (stop roster p) in
      record { wakes = omega (arith, first.wakes, second.wakes); misses = omega (arith, first.misses, second.misses) }

  told_now : (roster : Roster) (p : ℕ) → p < length roster.records → length (halted roster p).notices ≤ length roster.records
  told_now roster p within =
      let less = less_missed roster p within Hard in
      let some = count_by-le-length (may_wake t) roster.records in
      omega (arith, less.wakes, some)

  cleared_wakes : (r : Record) → may_wake t (record r { deadline = None }) ≡ may_wake t r
  unfolding may_wake is_due_at
  cleared_wakes r = refl

  cleared_misses : (r : Record) → is_missed_at t (record r { deadline = None }) ≡ false
  unfolding is_missed_at
  cleared_misses r = refl

  misses : (r : Record) → r.deadline ≡ Some t → is_missed_at t r ≡ true
  unfolding is_missed_at
  misses r e = rw e (eq-eqb t t refl)

-- a stop wakes each process once at the most
pub told_halted : (roster : Roster) (p : ℕ) → p < length roster.records → length (halted roster p).notices ≤ length roster.records
told_halted roster = told_now roster.now roster

-- a miss gives at most one notice more than processes that may no longer be woken, and one process
-- fewer misses its deadline
pub record Tells (t told : ℕ) (old new : Roster) : Type 0 where
  pub wakes : told + count (may_wake t) new ≤ count (may_wake t) old + 1
  pub misses : count (is_missed_at t) new + 1 ≤ count (is_missed_at t) old

pub missed_tells : (roster : Roster) (p : ℕ) → first_missed roster ≡ Some p
    → Tells roster.now (length (serve_missed roster p).notices) roster (serve_missed roster p).roster
missed_tells roster p is =
    let t = roster.now in
    let old = record_at roster p in
    let r : Record = record old { deadline = None } in
    let within = first_missed_within roster p is in
    let cleared_so = set_deadline roster p None in
    let many : p < length cleared_so.records = rw (reaches_set_deadline roster p within None (λ u e. absurd (none-some u e))).moves.many within in
    let woken = counted (may_wake t) (may_wake_ageless t) roster p within r in
    let missed = counted (is_missed_at t) (missed_ageless t) roster p within r in
    let was = misses t old (first_missed_now roster p is) in
    let rest = less_missed t cleared_so p many old.attributes.deadline in
    record {
      wakes = omega (arith, rest.wakes, rw (cleared_wakes t old) at woken);
      misses = omega (arith, rest.misses, rw (was, cleared_misses t old) at missed);
    }

-- a process that is due may be woken
due_wakes : (t : ℕ) (r : Record) → is_due_at t r ≡ true → may_wake t r ≡ true
unfolding may_wake
due_wakes t r e = rw e refl

-- there are so few notices that there is room for those of the dues
record Leaves (total now : ℕ) (roster : Roster) (notices : List Notice) : Type 0 where
  time : roster.now ≡ now
  starts : HasOrderlyStarts roster
  room : length notices + count (may_wake now) roster + count (is_missed_at now) roster ≤ total

pub room_left : (roster : Roster) → HasOrderlyStarts roster
    → let served = serve_deadlines roster in length served.notices + due_count served.roster ≤ 2 * length roster.records
room_left roster starts =
    let all = holds_in_turn first_missed serve_missed (Leaves (count (may_wake roster.now) roster + count (is_missed_at roster.now) roster) roster.now)
    (λ r notices p is before.
    let moves = (reach_serve_missed r p before.starts is).moves in
    let told = serve_missed r p in
    let tells = missed_tells r p is in
    let wakes : length told.notices + count (may_wake roster.now) told.roster ≤ count (may_wake roster.now) r + 1 =
    subst (λ t. length told.notices + count (may_wake t) told.roster ≤ count (may_wake t) r + 1) before.time tells.wakes in
    let misses : count (is_missed_at roster.now) told.roster + 1 ≤ count (is_missed_at roster.now) r =
    subst (λ t. count (is_missed_at t) told.roster + 1 ≤ count (is_missed_at t) r) before.time tells.misses in
    record {
      time = moves.time ∙ before.time;
      starts = moves.starts before.starts;
      room = rw length-append (omega (arith, before.room, wakes, misses));
    })
    (length roster.records) roster [] (record { time = refl; starts = starts; room = omega arith }) in
    let served = serve_deadlines roster in
    let dues = count_more (is_due_at roster.now) (may_wake roster.now) (due_wakes roster.now) served.roster.records in
    let some = count_by-le-length (may_wake roster.now) roster.records in
    let others = count_by-le-length (is_missed_at roster.now) roster.records in
    rw all.time (omega (arith, all.room, dues, some, others))

-- the type of process p's deadline is the same without the deadline
pub missed_is : (old middle : Roster) (p : ℕ) (kind : DeadlineType) → p < length old.records
    → middle ≡ set_deadline old p None → kind ≡ (record_at middle p).attributes.deadline
    → behind (Missed p kind ∷ []) (miss middle p kind) ≡ serve_missed old p
missed_is old middle p kind known is same =
    let at_p : record_at (set_deadline old p None) p ≡ record (record_at old p) { deadline = None } = at_record old p known _ in
    rw (same, is, at_p) refl
