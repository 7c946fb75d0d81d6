-- The parts of every record fit in their bytes, and each change of a record keeps it so.
use Rattle.std.proofs.Common.{ℕ, zero, suc, ◌+◌, ◌<◌, ◌≤◌, ◌^◌, ◌==◌, List, [], ◌∷◌, length, map, get_or, slice_set, Option, None, Some, arith, lit≤}
use Rattle.std.proofs.lemmas.Bool.{cond_both}
use Rattle.apex_types.specs.declared.limits.TheConstants.{MOST_CORES, MOST_OWNED}
use Rattle.apex_types.specs.declared.modes.DeadlineType.TheVariants.{Soft, Hard}
use Rattle.apex_types.specs.Modes.{is_normal}
use Rattle.apex_machine.specs.declared.records.Queue.TheVariants as queues
use Rattle.apex_machine.specs.declared.records.Suspender.TheVariants.{Other}
use Rattle.apex_machine.specs.declared.records.Wait.TheVariants as wait
use Rattle.apex_machine.specs.Ticks.{miss, pass_time, serve_deadlines, serve_due, serve_missed, tick_goal, wait_over}
use Rattle.apex_machine.specs.processes.Dues.{first_due, first_missed}
use Rattle.apex_machine.specs.processes.Held.{in_order, inserted}
use Rattle.apex_machine.specs.processes.Periods.{release_after}
use Rattle.apex_machine.specs.processes.Roster.{Roster, nobody, record_at, with_record}
use Rattle.apex_machine.specs.processes.Running.{is_eligible}
use Rattle.apex_machine.specs.processes.Stamps as stamps
use Rattle.apex_machine.specs.processes.Waiters.{first_waiter}
use Rattle.apex_machine.specs.services.Handovers.{halted, hand_on, hand_over, hand_to}
use Rattle.apex_machine.specs.services.InTurn.{Changed, in_turn, next_and}
use Rattle.apex_machine.specs.services.PartitionServices.{begin_waiter, delay_of, enter_idle, enter_normal, first_to_start}
use Rattle.apex_machine.specs.services.Waking.{first_in, grant_all, granted}
use Rattle.apex_machine.specs.table.Table.{Table}
use Rattle.apex_recall.specs.Reached.{FitsHolding, HeldFit, PartsFit, RecordFits, RosterFits, WaitFits}
use Rattle.apex_recall.specs.Terms.{DeadlineType, Holding, Message, Mode, Record, Wait}

-- every element of a list is as P says after one of them is set
pub set_each : {X : Type 0} (P : ℕ → X → Type 0) (d : X) (xs : List X) (p : ℕ) (x : X) → ((q : ℕ) → P q (get_or xs q d)) → P p x
    → (q : ℕ) → P q (get_or (slice_set xs p x) q d)
set_each P d [] p x all is q = all q
set_each P d (y ∷ ys) zero x all is zero = is
set_each P d (y ∷ ys) zero x all is (suc q) = all (suc q)
set_each P d (y ∷ ys) (suc p) x all is zero = all 0
set_each P d (y ∷ ys) (suc p) x all is (suc q) = set_each (λ k. P (suc k)) d ys p x (λ k. all (suc k)) is q

pub with_wait : {p c b s : ℕ} {w : Option Wait} {o : List Holding} → PartsFit p c b s w o → (v : Option Wait) → WaitFits v → PartsFit p c b s v o
with_wait is v fits = record { priority = is.priority; core = is.core; base = is.base; step = is.step; waits = fits; few = is.few; owned = is.owned }

pub with_owned : {p c b s : ℕ} {w : Option Wait} {o : List Holding} → PartsFit p c b s w o → (hs : List Holding) → length hs ≤ MOST_OWNED → HeldFit hs
    → PartsFit p c b s w hs
with_owned is hs few fit = record { priority = is.priority; core = is.core; base = is.base; step = is.step; waits = is.waits; few = few; owned = fit }

-- changes of several processes
abbrev pub ChangedFits : Table → Changed → Type 0
ChangedFits table changed = RosterFits table changed.roster

inserted_fit : (holding : Holding) → FitsHolding holding → (held : List Holding) → HeldFit held → HeldFit (inserted holding held)
inserted_fit holding fits [] fit = (fits, tt)
inserted_fit holding fits (other ∷ others) fit =
    cond_both {A = List Holding} _ (holding ∷ other ∷ others) (other ∷ inserted holding others) HeldFit
    (λ _. (fits, fit)) (λ _. (fit.0, inserted_fit holding fits others fit.1))

in_order_fit : (held : List Holding) → HeldFit held → HeldFit (in_order held)
in_order_fit [] fit = tt
in_order_fit (holding ∷ others) fit = inserted_fit holding fit.0 (in_order others) (in_order_fit others fit.1)

stopped_each : (rs : List Record) → ((p : ℕ) → RecordFits (get_or rs p nobody)) → (p : ℕ) → RecordFits (get_or (map stamps.stopped rs) p nobody)
stopped_each [] each p = each p
stopped_each (r ∷ rs) each zero =
    let own = each 0 in
    record { priority = own.priority; core = own.core; base = own.base; step = omega arith; waits = tt; few = omega arith; owned = tt }
stopped_each (r ∷ rs) each (suc p) = stopped_each rs (λ q. each (suc q)) p

module _ {table : Table} where
  pub same_fits : {roster : Roster} → RosterFits table roster → (now : ℕ) → RosterFits table (record roster { now = now })
  same_fits is now = record { cores = is.cores; disciplines = is.disciplines; rules = is.rules; each = is.each }

  module _ (roster : Roster) (is : RosterFits table roster) where
    put_fits : (records : List Record) → ((p : ℕ) → RecordFits (get_or records p nobody)) → (young old : _)
        → RosterFits table (record roster { records = records; young = young; old = old })
    put_fits records each young old = record { cores = is.cores; disciplines = is.disciplines; rules = is.rules; each = each }

    pub record_fits : (p : ℕ) (r : Record) → RecordFits r → RosterFits table (with_record roster p r)
    record_fits p r fits = put_fits (slice_set roster.records p r) (set_each (λ _ x. RecordFits x) nobody roster.records p r is.each fits) roster.young roster.old

    pub newest_fits : (p : ℕ) (r : Record) → RecordFits r → RosterFits table (stamps.newest roster p r)
    newest_fits p r fits =
        put_fits (slice_set roster.records p (record r { since = roster.young }))
        (set_each (λ _ x. RecordFits x) nobody roster.records p (record r { since = roster.young }) is.each fits) _ roster.old

    oldest_fits : (p : ℕ) (r : Record) → RecordFits r → RosterFits table (stamps.oldest roster p r)
    oldest_fits p r fits =
        put_fits (slice_set roster.records p (record r { since = roster.old }))
        (set_each (λ _ x. RecordFits x) nobody roster.records p (record r { since = roster.old }) is.each fits) roster.young _

    readied_fits : (p : ℕ) (r : Record) → RecordFits r → RosterFits table (stamps.readied roster p r)
    readied_fits p r fits =
        cond_both {A = Roster} (is_eligible roster.mode r) (stamps.newest roster p r) (with_record roster p r) (RosterFits table)
        (λ _. newest_fits p r fits) (λ _. record_fits p r fits)

    levelled_fits : (p : ℕ) (r : Record) → RecordFits r → RosterFits table (stamps.levelled roster p r)
    levelled_fits p r fits =
        cond_both {A = Roster} (stamps.is_level r (record_at roster p)) (with_record roster p r) (stamps.oldest roster p r) (RosterFits table)
        (λ _. record_fits p r fits) (λ _. oldest_fits p r fits)

    pub unblock_fits : (p : ℕ) → RosterFits table (stamps.unblock roster p)
    unblock_fits p = readied_fits p (stamps.awake (record_at roster p)) (with_wait (is.each p) None tt)

    pub release_fits : (p : ℕ) → RosterFits table (stamps.release roster p)
    release_fits p = readied_fits p (stamps.released_at roster.now (record_at roster p)) (with_wait (is.each p) None tt)

    pub block_fits : (p : ℕ) (w : Wait) (due : Option ℕ) → WaitFits (Some w) → RosterFits table (stamps.block roster p w due)
    block_fits p w due fits = newest_fits p (stamps.waiting (record_at roster p) w due) (with_wait (is.each p) (Some w) fits)

    pub begin_fits : (p delay : ℕ) → RosterFits table (stamps.begin roster p delay)
    begin_fits p delay =
        cond_both {A = Roster} (delay == 0) (stamps.release roster p) (stamps.block roster p wait.Start (Some (roster.now + delay))) (RosterFits table)
        (λ _. release_fits p) (λ _. block_fits p wait.Start (Some (roster.now + delay)) tt)

    pub stop_fits : (p : ℕ) → RosterFits table (stamps.stop roster p)
    stop_fits p =
        let own = is.each p in
        record_fits p (stamps.stopped (record_at roster p)) (record {
          priority = own.priority;
          core = own.core;
          base = own.base;
          step = omega arith;
          waits = tt;
          few = omega arith;
          owned = tt;
        })

    pub suspend_fits : (p : ℕ) → RosterFits table (stamps.suspend roster p)
    suspend_fits p = record_fits p (record (record_at roster p) { suspended = Some Other }) (is.each p)

    pub suspend_self_fits : (p : ℕ) (due : Option ℕ) → RosterFits table (stamps.suspend_self roster p due)
    suspend_self_fits p due = newest_fits p (stamps.self_suspended (record_at roster p) due) (with_wait (is.each p) None tt)

    pub resume_fits : (p : ℕ) → RosterFits table (stamps.resume roster p)
    resume_fits p =
        cond_both {A = Roster} (stamps.is_by_itself (record_at roster p).suspended) (stamps.unblock roster p)
        (stamps.readied roster p (stamps.unsuspended (record_at roster p))) (RosterFits table)
        (λ _. unblock_fits p) (λ _. readied_fits p (stamps.unsuspended (record_at roster p)) (is.each p))

    pub set_priority_fits : (p base : ℕ) → base < 256 → RosterFits table (stamps.set_priority roster p base)
    set_priority_fits p base few =
        let own = is.each p in
        let r = record_at roster p in
        let changed : Record = record r { base = base } in
        let fits : RecordFits changed =
        record { priority = own.priority; core = own.core; base = few; step = own.step; waits = own.waits; few = own.few; owned = own.owned } in
        cond_both {A = Roster} _ (stamps.newest roster p changed) (with_record roster p changed) (RosterFits table)
        (λ _. newest_fits p changed fits) (λ _. record_fits p changed fits)

    pub own_fits : (p : ℕ) (owned : List Holding) → length owned ≤ MOST_OWNED → HeldFit owned → RosterFits table (stamps.own roster p owned)
    own_fits p owned few fit = levelled_fits p (record (record_at roster p) { owned = owned }) (with_owned (is.each p) owned few fit)

    pub inherit_fits : (p : ℕ) (holding : Holding) → FitsHolding holding → RosterFits table (stamps.inherit roster p holding)
    inherit_fits p holding fits =
        readied_fits p (stamps.awake (record (record_at roster p) { owned = holding ∷ [] }))
        (with_wait (with_owned (is.each p) (holding ∷ []) (lit≤ tt) (fits, tt)) None tt)

    pub place_newest_fits : (p : ℕ) → RosterFits table (stamps.place_newest roster p)
    place_newest_fits p = newest_fits p (record_at roster p) (is.each p)

    pub set_deadline_fits : (p : ℕ) (deadline : Option ℕ) → RosterFits table (stamps.set_deadline roster p deadline)
    set_deadline_fits p deadline = record_fits p (record (record_at roster p) { deadline = deadline }) (is.each p)

    pub without_due_fits : (p : ℕ) → RosterFits table (stamps.without_due roster p)
    without_due_fits p = record_fits p (record (record_at roster p) { due = None }) (is.each p)

    pub set_core_fits : (p core : ℕ) → core < MOST_CORES → RosterFits table (stamps.set_core roster p core)
    set_core_fits p core few =
        let own = is.each p in
        record_fits p (record (record_at roster p) { core = core })
        (record { priority = own.priority; core = few; base = own.base; step = own.step; waits = own.waits; few = own.few; owned = own.owned })

    pub set_step_fits : (p step : ℕ) → step < 256 → RosterFits table (stamps.set_step roster p step)
    set_step_fits p step few =
        let own = is.each p in
        record_fits p (record (record_at roster p) { step = step })
        (record { priority = own.priority; core = own.core; base = own.base; step = few; waits = own.waits; few = own.few; owned = own.owned })

    pub receive_fits : (p : ℕ) (message : Message) → RosterFits table (stamps.receive roster p message)
    receive_fits p message = record_fits p (record (record_at roster p) { inbox = Some message }) (is.each p)

    reset_fits : (p : ℕ) → RosterFits table (with_record roster p (stamps.reset (record_at roster p)))
    reset_fits p =
        let own = is.each p in
        record_fits p (stamps.reset (record_at roster p))
        (record { priority = own.priority; core = own.core; base = own.priority; step = omega arith; waits = own.waits; few = own.few; owned = own.owned })

    pub mode_fits : (mode : Mode) → RosterFits table (stamps.set_mode roster mode)
    mode_fits mode = record { cores = is.cores; disciplines = is.disciplines; rules = is.rules; each = is.each }

  pub await_release_fits : (roster : Roster) → RosterFits table roster → (p : ℕ) → RosterFits table (stamps.await_release roster p)
  await_release_fits roster is p =
      block_fits (stamps.set_deadline roster p None) (set_deadline_fits roster is p None) p wait.Period (release_after roster.now (record_at roster p)) tt

  pub start_fits : (roster : Roster) → RosterFits table roster → (p delay : ℕ) → delay < 2 ^ 32 → RosterFits table (stamps.start roster p delay)
  start_fits roster is p delay few =
      let fresh = with_record roster p (stamps.reset (record_at roster p)) in
      let fits : RosterFits table fresh = reset_fits roster is p in
      cond_both {A = Roster} (is_normal roster.mode) (stamps.begin fresh p delay) (stamps.block fresh p (wait.Normal delay) None) (RosterFits table)
      (λ _. begin_fits fresh fits p delay) (λ _. block_fits fresh fits p (wait.Normal delay) None few)

  next_fits : (others : Roster → Changed) (change : Roster → ℕ → Changed)
      → ((r : Roster) → RosterFits table r → ChangedFits table (others r))
      → ((r : Roster) → RosterFits table r → (p : ℕ) → ChangedFits table (change r p))
      → (roster : Roster) → RosterFits table roster → (found : Option ℕ) → ChangedFits table (next_and others change roster found)
  next_fits others change rest each roster is None = is
  next_fits others change rest each roster is (Some p) = rest (change roster p).roster (each roster is p)

  pub in_turn_fits : (next : Roster → Option ℕ) (change : Roster → ℕ → Changed)
      → ((r : Roster) → RosterFits table r → (p : ℕ) → ChangedFits table (change r p))
      → (n : ℕ) (roster : Roster) → RosterFits table roster → ChangedFits table (in_turn next change n roster)
  in_turn_fits next change each zero roster is = is
  in_turn_fits next change each (suc n) roster is =
      next_fits (in_turn next change n) change (in_turn_fits next change each n) each roster is (next roster)

  pub granted_fits : (message : Option Message) (roster : Roster) → RosterFits table roster → (p : ℕ) → ChangedFits table (granted message roster p)
  granted_fits None roster is p = unblock_fits roster is p
  granted_fits (Some message) roster is p = unblock_fits (stamps.receive roster p message) (receive_fits roster is p message) p

  pub grant_all_fits : (queue : _) (message : Option Message) (roster : Roster) → RosterFits table roster → ChangedFits table (grant_all queue message roster)
  unfolding grant_all
  grant_all_fits queue message roster is = in_turn_fits (first_in queue) (granted message) (granted_fits message) (length roster.records) roster is

  -- mutexes that go on
  hand_to_fits : (roster : Roster) → RosterFits table roster → (holding : Holding) → FitsHolding holding → (found : Option ℕ)
      → ChangedFits table (hand_to roster holding found)
  hand_to_fits roster is holding fits None = is
  hand_to_fits roster is holding fits (Some q) =
      inherit_fits roster is q (record holding { depth = 1 }) (record { mutex = fits.mutex; ceiling = fits.ceiling; depth = omega arith })

  pub hand_over_fits : (roster : Roster) → RosterFits table roster → (holding : Holding) → FitsHolding holding → ChangedFits table (hand_over roster holding)
  hand_over_fits roster is holding fits = hand_to_fits roster is holding fits (first_waiter roster (queues.Mutex holding.mutex))

  hand_on_fits : (held : List Holding) → HeldFit held → (roster : Roster) → RosterFits table roster → ChangedFits table (hand_on held roster)
  hand_on_fits [] fit roster is = is
  hand_on_fits (holding ∷ others) fit roster is =
      hand_on_fits others fit.1 (hand_over roster holding).roster (hand_over_fits roster is holding fit.0)

  pub halted_fits : (roster : Roster) → RosterFits table roster → (p : ℕ) → ChangedFits table (halted roster p)
  halted_fits roster is p =
      hand_on_fits (in_order (record_at roster p).owned) (in_order_fit (record_at roster p).owned (is.each p).owned)
      (stamps.stop roster p) (stop_fits roster is p)

  -- a tick
  over_fits : (roster : Roster) → RosterFits table roster → (p : ℕ) (w : Option Wait) → ChangedFits table (wait_over roster p w)
  over_fits roster is p None = unblock_fits roster is p
  over_fits roster is p (Some wait.Time) = unblock_fits roster is p
  over_fits roster is p (Some wait.Start) = release_fits roster is p
  over_fits roster is p (Some wait.Period) = release_fits roster is p
  over_fits roster is p (Some (wait.Normal delay)) = unblock_fits roster is p
  over_fits roster is p (Some (wait.Semaphore s)) = unblock_fits roster is p
  over_fits roster is p (Some (wait.Receive b)) = unblock_fits roster is p
  over_fits roster is p (Some (wait.Send b message)) = unblock_fits roster is p
  over_fits roster is p (Some (wait.Blackboard b)) = unblock_fits roster is p
  over_fits roster is p (Some (wait.EventFlag e)) = unblock_fits roster is p
  over_fits roster is p (Some (wait.Mutex m)) = unblock_fits roster is p

  due_fits : (roster : Roster) → RosterFits table roster → (p : ℕ) → ChangedFits table (serve_due roster p)
  due_fits roster is p = over_fits (stamps.without_due roster p) (without_due_fits roster is p) p (record_at roster p).wait

  miss_fits : (roster : Roster) → RosterFits table roster → (p : ℕ) (kind : DeadlineType) → ChangedFits table (miss roster p kind)
  miss_fits roster is p Soft = is
  miss_fits roster is p Hard = halted_fits roster is p

  missed_fits : (roster : Roster) → RosterFits table roster → (p : ℕ) → ChangedFits table (serve_missed roster p)
  missed_fits roster is p =
      miss_fits (stamps.set_deadline roster p None) (set_deadline_fits roster is p None) p (record_at roster p).attributes.deadline

  pub time_fits : (roster : Roster) → RosterFits table roster → (n : ℕ) → ChangedFits table (pass_time roster n)
  unfolding pass_time
  time_fits roster is n =
      let then_so = stamps.advance_to roster (tick_goal roster n) in
      let told = in_turn_fits first_missed serve_missed missed_fits (length then_so.records) then_so (same_fits is (tick_goal roster n)) in
      let after = serve_deadlines then_so in
      in_turn_fits first_due serve_due due_fits (length after.roster.records) after.roster told

  -- the modes
  waiter_fits : (roster : Roster) → RosterFits table roster → (p : ℕ) → ChangedFits table (begin_waiter roster p)
  waiter_fits roster is p = begin_fits roster is p (delay_of (record_at roster p).wait)

  pub normal_fits : (roster : Roster) → RosterFits table roster → ChangedFits table (enter_normal roster)
  unfolding enter_normal
  normal_fits roster is = in_turn_fits first_to_start begin_waiter waiter_fits (length roster.records) (stamps.set_mode roster _) (mode_fits roster is _)

  pub idle_fits : (roster : Roster) → RosterFits table roster → RosterFits table (enter_idle roster)
  idle_fits roster is = record { cores = is.cores; disciplines = is.disciplines; rules = is.rules; each = stopped_each roster.records is.each }
