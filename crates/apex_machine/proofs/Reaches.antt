-- From one roster to another by changes of single processes at one instant: the facts that such
-- changes keep.
use Rattle.std.proofs.Common.{◌≡◌, ◌≢◌, ℕ, zero, suc, ◌+◌, ◌<◌, ◌≤◌, ◌≤ℤ◌, pos, ◌+ℤ◌, ◌==◌, ◌||◌, true, false, ◌&&◌, not, ◌++◌, length, Option, None, Some, refl, sym, ◌∙◌, ap, subst, inl, inr, arith}
use Rattle.std.proofs.lemmas.Bool.{both_ways, cases_eq, cond_both}
use Rattle.std.proofs.lemmas.Int.{ints}
use Rattle.std.proofs.lemmas.List.{length-append, set-set}
use Rattle.std.proofs.lemmas.Option.{none-some}
use Rattle.apex_machine.specs.Terms.{Message, Record, Suspender, Wait}
use Rattle.apex_machine.specs.declared.records.Suspender.TheVariants.{Itself, Other}
use Rattle.apex_machine.specs.declared.records.Wait.TheVariants.{Normal, Start, Period, Mutex}
use Rattle.apex_types.specs.Modes.{is_cold_start, is_normal}
use Rattle.apex_machine.specs.processes.Roster.{Roster, record_at, with_record}
use Rattle.apex_machine.specs.processes.Owners.{HasOrderlyOwners, owns_some}
use Rattle.apex_machine.specs.processes.Running.{is_eligible}
use Rattle.apex_machine.specs.processes.Dues.{HasNoDeadlineBelow, HasNoDueBelow, IsFrom}
use Rattle.apex_machine.specs.processes.Periods.{AreInTime, IsInTime, IsReleased, IsWholePeriodsAfter, awaits_first, release_after}
use Rattle.apex_machine.specs.processes.Distinct.{IsStamped}
use Rattle.apex_machine.specs.processes.Waiters.{goes_by_priority, queue_in}
use Rattle.apex_machine.specs.processes.Stamps.{WaitsForOne, HasOrderlyStarts, suspension_awake, newest, readied, is_level, reset, begin, released_at, start, stop, stopped, is_by_itself, suspend, self_suspended, suspend_self, unsuspended, resume, set_priority, awake, waiting, block, unblock, release, place_newest, without_due, set_deadline, await_release, advance_to, set_core, set_step, receive}
use Rattle.apex_machine.specs.services.InTurn.{Changed, next_and, in_turn}
use Rattle.apex_machine.proofs.Rosters.{at_record}
use Rattle.apex_machine.proofs.Dues.{deadline_later, from_now}
use Rattle.apex_machine.proofs.Periods.{KeepsPeriods, StaysInPeriod, no_period, periods_then, stays_same, stays_then}
use Rattle.apex_machine.proofs.Owners.{IsSameOwner, owners_kept, same_owner}
use Rattle.apex_machine.proofs.Replaces.{Replaces, each_stays, replaces_newest, replaces_readied, replaces_record}
use Rattle.apex_machine.proofs.Starts.{IsOrderlyIn, orderly_at, orderly_all}

-- as many records, the same time, the same rules of mutexes, and at most `most` new stamps; stamps
-- that differ, processes that are in time and wait for one thing at the most, and the order of
-- starts stay so
pub record Moves (most : ℕ) (old new : Roster) : Type 0 where
  pub many : length new.records ≡ length old.records
  pub time : new.now ≡ old.now
  pub rules : new.rules ≡ old.rules
  pub stamps : new.young ≤ℤ (old.young +ℤ pos most)
  pub older : old.old ≤ℤ (new.old +ℤ pos most)
  pub stamped : IsStamped old → IsStamped new
  pub times : AreInTime old → AreInTime new
  pub one : WaitsForOne old → WaitsForOne new
  pub starts : HasOrderlyStarts old → HasOrderlyStarts new
  pub late : is_cold_start old.mode ≡ false → is_cold_start new.mode ≡ false

-- the same, and mutexes that are owned in order are so afterwards, and releases follow each other
-- by whole periods
pub record Reaches (most : ℕ) (old new : Roster) : Type 0 where
  pub moves : Moves most old new
  pub owners : HasOrderlyOwners old → HasOrderlyOwners new
  pub periods : KeepsPeriods old new

pub moves_then : {first second third : Roster} (n m : ℕ) → Moves n first second → Moves m second third → Moves (n + m) first third
moves_then n m g h = record {
  many = h.many ∙ g.many;
  time = h.time ∙ g.time;
  rules = h.rules ∙ g.rules;
  stamps = omega (arith, ints, g.stamps, h.stamps);
  older = omega (arith, ints, g.older, h.older);
  stamped = λ s. h.stamped (g.stamped s);
  times = λ t. h.times (g.times t);
  one = λ o. h.one (g.one o);
  starts = λ o. h.starts (g.starts o);
  late = λ l. h.late (g.late l);
}

pub moves_more : {old new : Roster} (n m : ℕ) → n ≤ m → Moves n old new → Moves m old new
moves_more n m few g = record {
  many = g.many;
  time = g.time;
  rules = g.rules;
  stamps = omega (arith, ints, g.stamps, few);
  older = omega (arith, ints, g.older, few);
  stamped = g.stamped;
  times = g.times;
  one = g.one;
  starts = g.starts;
  late = g.late;
}

pub reaches_none : (most : ℕ) (roster : Roster) → Reaches most roster roster
reaches_none most roster = record {
  moves = record {
    many = refl;
    time = refl;
    rules = refl;
    stamps = omega (arith, ints);
    older = omega (arith, ints);
    stamped = λ h. h;
    times = λ h. h;
    one = λ h. h;
    starts = λ h. h;
    late = λ h. h;
  };
  owners = λ h. h;
  periods = λ p. stays_same (record_at roster p);
}

pub reaches_then : {first second third : Roster} (n m : ℕ) → Reaches n first second → Reaches m second third → Reaches (n + m) first third
reaches_then n m g h = record {
  moves = moves_then n m g.moves h.moves;
  owners = λ o. h.owners (g.owners o);
  periods = λ p. stays_then (g.periods p) (h.periods p);
}

pub reaches_more : {old new : Roster} (n m : ℕ) → n ≤ m → Reaches n old new → Reaches m old new
reaches_more n m few g = record { moves = moves_more n m few g.moves; owners = g.owners; periods = g.periods }

-- an event reaches the same, but it may start a process that was dormant, and in COLD_START bind
-- one to another core
pub record Arrives (most : ℕ) (old new : Roster) : Type 0 where
  pub moves : Moves most old new
  pub owners : HasOrderlyOwners old → HasOrderlyOwners new
  pub attributes : (p : ℕ) → (record_at new p).attributes ≡ (record_at old p).attributes
  pub released : (p : ℕ) → IsReleased (record_at old p)
      → IsWholePeriodsAfter (record_at old p).attributes.period (record_at old p).release (record_at new p).release
  pub cores : is_cold_start old.mode ≡ false → (p : ℕ) → (record_at new p).core ≡ (record_at old p).core

pub arrives_of : {most : ℕ} {old new : Roster} → Reaches most old new → Arrives most old new
arrives_of reaches = record {
  moves = reaches.moves;
  owners = reaches.owners;
  attributes = λ p. (reaches.periods p).attributes;
  released = λ p is. (reaches.periods p).later is.1;
  cores = λ _ p. (reaches.periods p).core;
}

pub arrives_more : {old new : Roster} (n m : ℕ) → n ≤ m → Arrives n old new → Arrives m old new
arrives_more n m few g = record {
  moves = moves_more n m few g.moves;
  owners = g.owners;
  attributes = g.attributes;
  released = g.released;
  cores = g.cores;
}

-- a change that starts and stops no process, and then an event
pub arrives_then : {first second third : Roster} (n m : ℕ) → Reaches n first second
    → ((p : ℕ) → (record_at second p).started ≡ (record_at first p).started) → Arrives m second third → Arrives (n + m) first third
arrives_then {first} {second} {third} n m g started h = record {
  moves = moves_then n m g.moves h.moves;
  owners = λ o. h.owners (g.owners o);
  attributes = λ p. h.attributes p ∙ (g.periods p).attributes;
  released = λ p is.
      let stays = g.periods p in
      let again = h.released p (started p ∙ is.0, stays.still is.1) in
      periods_then (record_at first p).attributes.period (record_at first p).release (record_at second p).release (record_at third p).release
      (stays.later is.1)
      (subst (λ attributes. IsWholePeriodsAfter attributes.period (record_at second p).release (record_at third p).release) stays.attributes again);
  cores = λ late p. h.cores (g.moves.late late) p ∙ (g.periods p).core;
}

-- the two agree in all on which the laws of time and of starts depend
pub record IsAlike (r s : Record) : Type 0 where
  pub attributes : r.attributes ≡ s.attributes
  pub started : r.started ≡ s.started
  pub wait : r.wait ≡ s.wait
  pub due : r.due ≡ s.due
  pub deadline : r.deadline ≡ s.deadline
  pub release : r.release ≡ s.release

-- if a law holds of every record of the roster, it holds of this record
pub record Fits (roster : Roster) (r : Record) : Type 0 where
  pub time : AreInTime roster → IsInTime roster.now r
  pub one : WaitsForOne roster → is_by_itself r.suspended ≡ true → r.wait ≡ None
  pub starts : HasOrderlyStarts roster → IsOrderlyIn roster.mode r

-- one process has another record
module _ {most : ℕ} {roster new : Roster} {p : ℕ} {r : Record} (has : Replaces most roster new p r) where
  -- a property of every record, and of the new one, holds of every record afterwards
  all_stay : (P : Record → Type 0) → ((q : ℕ) → P (record_at roster q)) → P (record r { since = has.stamp }) → (q : ℕ) → P (record_at new q)
  all_stay P before here q = each_stays has (λ s t. P s → P t) (λ _ is. is) (λ _. here) q (before q)

  -- no law but that of stamps depends on the record's stamp
  pub moves_by : Fits roster r → Moves most roster new
  moves_by fits = record {
    many = has.many;
    time = has.time;
    rules = has.rules;
    stamps = has.stamps;
    older = has.older;
    stamped = has.stamped;
    times = λ before q. rw has.time
        (all_stay (IsInTime roster.now) before
        (let is = fits.time before in record { due = is.due; deadline = is.deadline; release = is.release; period = is.period }) q);
    one = λ before. all_stay (λ (x : Record). is_by_itself x.suspended ≡ true → x.wait ≡ None) before (fits.one before);
    starts = λ before. orderly_all new (λ q. rw has.mode
        (all_stay (IsOrderlyIn roster.mode) (orderly_at roster before)
        (let is = fits.starts before in record { dormant = is.dormant; early = is.early; undue = is.undue }) q));
    late = λ l. ap is_cold_start has.mode ∙ l;
  }

  owners_by : IsSameOwner roster p r → HasOrderlyOwners roster → HasOrderlyOwners new
  owners_by owner = owners_kept roster new (same_owner has owner)

  -- if the process stays in its period, all do
  pub periods_by : StaysInPeriod (record_at roster p) r → KeepsPeriods roster new
  periods_by is =
      each_stays has StaysInPeriod stays_same
      (record { attributes = is.attributes; core = is.core; later = is.later; still = is.still; dormant = is.dormant })

  reaches_by : Fits roster r → IsSameOwner roster p r → StaysInPeriod (record_at roster p) r → Reaches most roster new
  reaches_by fits owner stays = record { moves = moves_by fits; owners = owners_by owner; periods = periods_by stays }

module _ (roster : Roster) (p : ℕ) (known : p < length roster.records) where
  -- a record that is not suspended by itself
  awake_one : (suspended : Option Suspender) → is_by_itself (suspension_awake suspended) ≡ true → ⊥
  awake_one None h = both_ways false refl h
  awake_one (Some Itself) h = both_ways false refl h
  awake_one (Some Other) h = both_ways false refl h

  -- the process's own record, changed in parts on which no law depends
  pub own_fits : (r : Record) → IsAlike r (record_at roster p)
      → (is_by_itself r.suspended ≡ true → is_by_itself (record_at roster p).suspended ≡ true) → Fits roster r
  own_fits r alike suspended = record {
    time = λ before. let is = before p in record {
      due = rw alike.due is.due;
      deadline = rw alike.deadline is.deadline;
      release = rw alike.release is.release;
      period = λ w t d. rw (alike.attributes, alike.release) (is.period (sym alike.wait ∙ w) t (sym alike.due ∙ d));
    };
    one = λ before h. alike.wait ∙ before p (suspended h);
    starts = λ before. record {
      dormant = λ e. alike.wait ∙ before.dormant p (sym alike.started ∙ e);
      early = λ e h. let queue : queue_in r ≡ queue_in (record_at roster p) = rw alike.wait refl in queue ∙ before.early e p (sym alike.started ∙ h);
      undue = λ e. alike.due ∙ before.undue e p;
    };
  }

  -- the process's own mutex, and its own wait
  own_mutex : (r : Record) → r.owned ≡ (record_at roster p).owned → r.wait ≡ (record_at roster p).wait → IsSameOwner roster p r
  own_mutex r owned wait = record { owned = owned; mutex = λ m is. sym wait ∙ is }

  -- its own mutex, and a wait for none
  no_wait : (r : Record) → r.owned ≡ (record_at roster p).owned → ((m : ℕ) → r.wait ≡ Some (Mutex m) → ⊥) → IsSameOwner roster p r
  no_wait r owned idle = record { owned = owned; mutex = λ m is. absurd (idle m is) }

  -- a record that wakes, with the process's own deadline and release
  pub awake_fits : (r : Record) → r.deadline ≡ (record_at roster p).deadline → r.release ≡ (record_at roster p).release
      → (is_normal roster.mode ≡ false → ⊥) → Fits roster (awake r)
  awake_fits r deadline release normal = record {
    time = λ before. record {
      due = λ t e. absurd (none-some t e);
      deadline = rw deadline (before p).deadline;
      release = rw release (before p).release;
      period = λ w. absurd (none-some Period w);
    };
    one = λ before h. refl;
    starts = λ before. record { dormant = λ e. refl; early = λ e. absurd (normal e); undue = λ e. refl };
  }

  released_fits : (r : Record) → (is_normal roster.mode ≡ false → ⊥) → Fits roster (released_at roster.now r)
  released_fits r normal = record {
    time = λ before. record {
      due = λ t e. absurd (none-some t e);
      deadline = deadline_later roster.now r;
      release = omega arith;
      period = λ w. absurd (none-some Period w);
    };
    one = λ before h. refl;
    starts = λ before. record { dormant = λ e. refl; early = λ e. absurd (normal e); undue = λ e. refl };
  }

  -- a wait for the next release ends whole periods after the last one
  abbrev IsAligned : Record → Wait → Option ℕ → Type 0
  IsAligned r wait due = Some wait ≡ Some Period → (t : ℕ) → due ≡ Some t → IsWholePeriodsAfter r.attributes.period r.release t

  waiting_fits : (r : Record) → r.deadline ≡ (record_at roster p).deadline → r.release ≡ (record_at roster p).release
      → (wait : Wait) (due : Option ℕ) → IsFrom roster.now due → IsAligned r wait due
      → r.started ≡ true → (is_normal roster.mode ≡ false → ⊥) → Fits roster (waiting r wait due)
  waiting_fits r deadline release wait due later aligned begun normal = record {
    time = λ before. record {
      due = later;
      deadline = rw deadline (before p).deadline;
      release = rw release (before p).release;
      period = aligned;
    };
    one = λ before h. absurd (awake_one r.suspended h);
    starts = λ before. record { dormant = λ e. absurd (both_ways _ e begun); early = λ e. absurd (normal e); undue = λ e. absurd (normal e) };
  }

  -- a record that wakes, with the process's own attributes, core and release
  awake_stays : (r : Record) → r.attributes ≡ (record_at roster p).attributes → r.core ≡ (record_at roster p).core → r.release ≡ (record_at roster p).release
      → r.started ≡ (record_at roster p).started → StaysInPeriod (record_at roster p) (awake r)
  awake_stays r attributes core release started = record {
    attributes = attributes;
    core = core;
    later = λ _. rw release (no_period (record_at roster p).attributes.period (record_at roster p).release);
    still = λ _. refl;
    dormant = λ e. started ∙ e;
  }

  -- the process's own release, and no wait for a first one
  pub own_stays : (r : Record) → r.attributes ≡ (record_at roster p).attributes → r.core ≡ (record_at roster p).core → r.release ≡ (record_at roster p).release
      → r.started ≡ (record_at roster p).started → (awaits_first (record_at roster p).wait ≡ false → awaits_first r.wait ≡ false)
      → StaysInPeriod (record_at roster p) r
  own_stays r attributes core release started still = record {
    attributes = attributes;
    core = core;
    later = λ _. rw release (no_period (record_at roster p).attributes.period (record_at roster p).release);
    still = still;
    dormant = λ e. started ∙ e;
  }

  -- a change of the process's own record in parts on which no law depends
  reaches_alike : {most : ℕ} {new : Roster} {r : Record} → Replaces most roster new p r → IsAlike r (record_at roster p)
      → r.owned ≡ (record_at roster p).owned → r.core ≡ (record_at roster p).core
      → (is_by_itself r.suspended ≡ true → is_by_itself (record_at roster p).suspended ≡ true) → Reaches most roster new
  reaches_alike {most} {new} {r} has is owned core suspended =
      reaches_by has (own_fits r is suspended) (own_mutex r owned is.wait)
      (own_stays r is.attributes core is.release is.started (λ e. ap awaits_first is.wait ∙ e))

  pub reaches_unblock : (is_normal roster.mode ≡ false → ⊥) → Reaches 1 roster (unblock roster p)
  reaches_unblock normal =
      reaches_by (replaces_readied roster p known (awake (record_at roster p)) refl) (awake_fits (record_at roster p) refl refl normal)
      (no_wait _ refl (λ m is. none-some (Mutex m) is)) (awake_stays (record_at roster p) refl refl refl refl)

  -- a release: the first one after a start, or one that is whole periods later
  pub reaches_release : (is_normal roster.mode ≡ false → ⊥)
      → (awaits_first (record_at roster p).wait ≡ false
      → IsWholePeriodsAfter (record_at roster p).attributes.period (record_at roster p).release roster.now)
      → Reaches 1 roster (release roster p)
  reaches_release normal later =
      reaches_by (replaces_readied roster p known (released_at roster.now (record_at roster p)) refl) (released_fits (record_at roster p) normal)
      (no_wait _ refl (λ m is. none-some (Mutex m) is))
      (record { attributes = refl; core = refl; later = later; still = λ _. refl; dormant = λ e. e })

  pub moves_block : (wait : Wait) (due : Option ℕ) → IsFrom roster.now due → IsAligned (record_at roster p) wait due
      → (record_at roster p).started ≡ true → (is_normal roster.mode ≡ false → ⊥) → Moves 1 roster (block roster p wait due)
  moves_block wait due later aligned begun normal =
      moves_by (replaces_newest roster p known (waiting (record_at roster p) wait due))
      (waiting_fits (record_at roster p) refl refl wait due later aligned begun normal)

  -- a wait for another thing than a mutex
  pub reaches_block : (wait : Wait) (due : Option ℕ) → IsFrom roster.now due → IsAligned (record_at roster p) wait due
      → (record_at roster p).started ≡ true → (is_normal roster.mode ≡ false → ⊥)
      → ((m : ℕ) → Some wait ≡ Some (Mutex m) → ⊥)
      → (awaits_first (record_at roster p).wait ≡ false → awaits_first (Some wait) ≡ false) → Reaches 1 roster (block roster p wait due)
  reaches_block wait due later aligned begun normal other still =
      reaches_by (replaces_newest roster p known (waiting (record_at roster p) wait due))
      (waiting_fits (record_at roster p) refl refl wait due later aligned begun normal)
      (no_wait _ refl other) (own_stays (waiting (record_at roster p) wait due) refl refl refl refl still)

  -- a start that the process awaited begins
  pub reaches_begin : (delay : ℕ) → (record_at roster p).started ≡ true → awaits_first (record_at roster p).wait ≡ true
      → (is_normal roster.mode ≡ false → ⊥) → Reaches 1 roster (begin roster p delay)
  reaches_begin delay begun awaited normal =
      cond_both {A = Roster} (delay == 0) (release roster p) (block roster p Start (Some (roster.now + delay))) (Reaches 1 roster)
      (λ _. reaches_release normal (λ e. absurd (both_ways _ e awaited)))
      (λ _. reaches_block Start (Some (roster.now + delay)) (from_now roster.now delay) (λ e. cc) begun normal (λ m is. cc)
      (λ e. absurd (both_ways _ e awaited)))

  -- of two changes of one record the later one counts
  newest_twice : (r s : Record) → newest (with_record roster p r) p s ≡ newest roster p s
  newest_twice r s = rw set-set

  readied_twice : (r s : Record) → readied (with_record roster p r) p s ≡ readied roster p s
  readied_twice r s = rw (set-set roster.records p r (record s { since = roster.young }), set-set roster.records p r s)

  abbrev fresh : Roster
  fresh = with_record roster p (reset (record_at roster p))

  at_fresh : record_at fresh p ≡ reset (record_at roster p)
  at_fresh = at_record roster p known (reset (record_at roster p))

  fresh_released : release fresh p ≡ readied roster p (released_at roster.now (reset (record_at roster p)))
  fresh_released =
      ap (λ (r : Record). readied fresh p (released_at roster.now r)) at_fresh
      ∙ readied_twice (reset (record_at roster p)) (released_at roster.now (reset (record_at roster p)))

  fresh_blocked : (wait : Wait) (due : Option ℕ) → block fresh p wait due ≡ newest roster p (waiting (reset (record_at roster p)) wait due)
  fresh_blocked wait due = ap (λ (r : Record). newest fresh p (waiting r wait due)) at_fresh ∙ newest_twice (reset (record_at roster p)) (waiting (reset (record_at roster p)) wait due)

  late : is_normal roster.mode ≡ true → is_normal roster.mode ≡ false → ⊥
  late normal e = both_ways _ e normal

  early_fits : (delay : ℕ) → Fits roster (waiting (reset (record_at roster p)) (Normal delay) None)
  early_fits delay = record {
    time = λ before. record { due = λ t e. absurd (none-some t e); deadline = (before p).deadline; release = (before p).release; period = λ w. cc };
    one = λ before h. absurd (both_ways false refl h);
    starts = λ before. record { dormant = λ e. absurd (both_ways true e refl); early = λ e h. refl; undue = λ e. refl };
  }

  -- a start, and the process as it leaves it
  pub record Starts (new : Roster) : Type 0 where
    pub moves : Moves 1 roster new
    pub owners : HasOrderlyOwners roster → HasOrderlyOwners new
    pub attributes : (q : ℕ) → (record_at new q).attributes ≡ (record_at roster q).attributes
    pub cores : (q : ℕ) → (record_at new q).core ≡ (record_at roster q).core
    pub others : (q : ℕ) → q ≢ p → record_at new q ≡ record_at roster q

  starts_by : {new : Roster} {r : Record} → Replaces 1 roster new p r → Fits roster r → IsSameOwner roster p r
      → r.attributes ≡ (record_at roster p).attributes → r.core ≡ (record_at roster p).core → Starts new
  starts_by has fits owner same core = record {
    moves = moves_by has fits;
    owners = owners_by has owner;
    attributes = each_stays has (λ s t. t.attributes ≡ s.attributes) (λ _. refl) same;
    cores = each_stays has (λ s t. t.core ≡ s.core) (λ _. refl) core;
    others = has.others;
  }

  pub starts : (delay : ℕ) → Starts (start roster p delay)
  starts delay =
      let r = reset (record_at roster p) in
      let due = Some (roster.now + delay) in
      cond_both {A = Roster} (is_normal roster.mode) (begin fresh p delay) (block fresh p (Normal delay) None) Starts
      (λ normal. cond_both {A = Roster} (delay == 0) (release fresh p) (block fresh p Start due) Starts
      (λ _. subst Starts (sym fresh_released) (starts_by (replaces_readied roster p known (released_at roster.now r) refl) (released_fits r (late normal)) (no_wait _ refl (λ m is. none-some (Mutex m) is)) refl refl))
      (λ _. subst Starts (sym (fresh_blocked Start due)) (starts_by (replaces_newest roster p known (waiting r Start due)) (waiting_fits r refl refl Start due (from_now roster.now delay) (λ e. cc) refl (late normal)) (no_wait _ refl (λ m is. cc)) refl refl)))
      (λ _. subst Starts (sym (fresh_blocked (Normal delay) None)) (starts_by (replaces_newest roster p known (waiting r (Normal delay) None)) (early_fits delay) (no_wait _ refl (λ m is. cc)) refl refl))

  -- the start of a dormant process
  pub arrives_start : (delay : ℕ) → (record_at roster p).started ≡ false → Arrives 1 roster (start roster p delay)
  arrives_start delay dormant =
      let is = starts delay in
      record {
        moves = is.moves;
        owners = is.owners;
        attributes = is.attributes;
        cores = λ _. is.cores;
        released = λ q was. elim (cases_eq q p) [
          | inl here ↦ absurd (both_ways _ dormant (sym (ap (λ (k : ℕ). (record_at roster k).started) here) ∙ was.0))
          | inr apart ↦
              subst (λ (x : Record). IsWholePeriodsAfter (record_at roster q).attributes.period (record_at roster q).release x.release)
              (sym (is.others q apart)) (no_period (record_at roster q).attributes.period (record_at roster q).release)
        ];
      }

  stopped_fits : Fits roster (stopped (record_at roster p))
  stopped_fits = record {
    time = λ before. record {
      due = λ t e. absurd (none-some t e);
      deadline = λ t e. absurd (none-some t e);
      release = (before p).release;
      period = λ w. absurd (none-some Period w);
    };
    one = λ before h. refl;
    starts = λ before. record { dormant = λ e. refl; early = λ e h. absurd (both_ways false refl h); undue = λ e. refl };
  }

  pub moves_stop : Moves 0 roster (stop roster p)
  moves_stop = moves_by (replaces_record roster p known (stopped (record_at roster p)) refl 0) stopped_fits

  -- a stop keeps the release
  pub periods_stop : KeepsPeriods roster (stop roster p)
  periods_stop = periods_by (replaces_record roster p known (stopped (record_at roster p)) refl 0) (record {
    attributes = refl;
    core = refl;
    later = λ _. no_period (record_at roster p).attributes.period (record_at roster p).release;
    still = λ _. refl;
    dormant = λ _. refl;
  })

  pub reaches_suspend : Reaches 0 roster (suspend roster p)
  reaches_suspend =
      reaches_alike (replaces_record roster p known _ refl 0) (record { attributes = refl; started = refl; wait = refl; due = refl; deadline = refl; release = refl }) refl refl
      (λ h. absurd (both_ways false refl h))

  pub reaches_suspend_self : (due : Option ℕ) → IsFrom roster.now due → (record_at roster p).started ≡ true → (is_normal roster.mode ≡ false → ⊥)
      → Reaches 1 roster (suspend_self roster p due)
  reaches_suspend_self due later begun normal = reaches_by (replaces_newest roster p known (self_suspended (record_at roster p) due)) (record {
    time = λ before. record { due = later; deadline = (before p).deadline; release = (before p).release; period = λ w. absurd (none-some Period w) };
    one = λ before h. refl;
    starts = λ before. record { dormant = λ e. refl; early = λ e. absurd (normal e); undue = λ e. absurd (normal e) };
  }) (no_wait _ refl (λ m is. none-some (Mutex m) is)) (own_stays _ refl refl refl refl (λ _. refl))

  pub reaches_resume : (is_by_itself (record_at roster p).suspended ≡ true → is_normal roster.mode ≡ false → ⊥) → Reaches 1 roster (resume roster p)
  reaches_resume normal =
      cond_both {A = Roster} (is_by_itself (record_at roster p).suspended) _ _ (Reaches 1 roster)
      (λ by. reaches_unblock (normal by))
      (λ _. reaches_alike (replaces_readied roster p known (unsuspended (record_at roster p)) refl) (record { attributes = refl; started = refl; wait = refl; due = refl; deadline = refl; release = refl }) refl refl
      (λ h. absurd (both_ways false refl h)))

  pub reaches_set_priority : (base : ℕ) → Reaches 1 roster (set_priority roster p base)
  reaches_set_priority base =
      let r = record_at roster p in
      let changed : Record = record r { base = base } in
      let alike : IsAlike changed r = record { attributes = refl; started = refl; wait = refl; due = refl; deadline = refl; release = refl } in
      let stays = owns_some r && is_level changed r in
      cond_both {A = Roster} ((is_eligible roster.mode r && not stays) || goes_by_priority roster (queue_in r)) _ _ (Reaches 1 roster)
      (λ _. reaches_alike (replaces_newest roster p known changed) alike refl refl (λ h. h))
      (λ _. reaches_alike (replaces_record roster p known changed refl 1) alike refl refl (λ h. h))

  pub reaches_place_newest : Reaches 1 roster (place_newest roster p)
  reaches_place_newest =
      reaches_alike (replaces_newest roster p known (record_at roster p)) (record { attributes = refl; started = refl; wait = refl; due = refl; deadline = refl; release = refl }) refl refl (λ h. h)

  pub reaches_without_due : Reaches 0 roster (without_due roster p)
  reaches_without_due = reaches_by (replaces_record roster p known _ refl 0) (record {
    time = λ before. record {
      due = λ t e. absurd (none-some t e);
      deadline = (before p).deadline;
      release = (before p).release;
      period = λ w t e. absurd (none-some t e);
    };
    one = λ before. before p;
    starts = λ before. record { dormant = before.dormant p; early = λ e. before.early e p; undue = λ e. refl };
  }) (own_mutex _ refl refl) (own_stays _ refl refl refl refl (λ e. e))

  pub reaches_set_deadline : (deadline : Option ℕ) → IsFrom roster.now deadline → Reaches 0 roster (set_deadline roster p deadline)
  reaches_set_deadline deadline later = reaches_by (replaces_record roster p known _ refl 0) (record {
    time = λ before. let is = before p in record { due = is.due; deadline = later; release = is.release; period = is.period };
    one = λ before. before p;
    starts = λ before. record { dormant = before.dormant p; early = λ e. before.early e p; undue = λ e. before.undue e p };
  }) (own_mutex _ refl refl) (own_stays _ refl refl refl refl (λ e. e))

  pub moves_set_core : (core : ℕ) → Moves 0 roster (set_core roster p core)
  moves_set_core core =
      moves_by (replaces_record roster p known _ refl 0) (own_fits _ (record { attributes = refl; started = refl; wait = refl; due = refl; deadline = refl; release = refl }) (λ h. h))

  -- a process is bound to another core in COLD_START
  pub arrives_set_core : (core : ℕ) → is_cold_start roster.mode ≡ true → Arrives 0 roster (set_core roster p core)
  arrives_set_core core early =
      let r : Record = record (record_at roster p) { core = core } in
      let has = replaces_record roster p known r refl 0 in
      record {
        moves = moves_set_core core;
        owners = owners_by has (own_mutex r refl refl);
        attributes = each_stays has (λ s t. t.attributes ≡ s.attributes) (λ _. refl) refl;
        released = λ q _. each_stays has (λ s t. IsWholePeriodsAfter s.attributes.period s.release t.release)
            (λ s. no_period s.attributes.period s.release) (no_period r.attributes.period r.release) q;
        cores = λ late. absurd (both_ways _ late early);
      }

  pub reaches_set_step : (step : ℕ) → Reaches 0 roster (set_step roster p step)
  reaches_set_step step =
      reaches_alike (replaces_record roster p known _ refl 0) (record { attributes = refl; started = refl; wait = refl; due = refl; deadline = refl; release = refl }) refl refl (λ h. h)

  pub reaches_receive : (message : Message) → Reaches 0 roster (receive roster p message)
  reaches_receive message =
      reaches_alike (replaces_record roster p known _ refl 0) (record { attributes = refl; started = refl; wait = refl; due = refl; deadline = refl; release = refl }) refl refl (λ h. h)

-- a periodic process waits for its next release
pub reaches_await_release : (roster : Roster) (p : ℕ) → p < length roster.records → IsFrom roster.now (release_after roster.now (record_at roster p))
    → ((t : ℕ) → release_after roster.now (record_at roster p) ≡ Some t → IsWholePeriodsAfter (record_at roster p).attributes.period (record_at roster p).release t)
    → (record_at roster p).started ≡ true → (is_normal roster.mode ≡ false → ⊥) → Reaches 1 roster (await_release roster p)
reaches_await_release roster p known later aligned begun normal =
    let cleared = set_deadline roster p None in
    let r : Record = record (record_at roster p) { deadline = None } in
    let here : record_at cleared p ≡ r = at_record roster p known r in
    let known_so : p < length cleared.records = rw (reaches_set_deadline roster p known None (λ t e. absurd (none-some t e))).moves.many known in
    reaches_then 0 1 (reaches_set_deadline roster p known None (λ t e. absurd (none-some t e)))
    (reaches_block cleared p known_so Period (release_after roster.now (record_at roster p)) later
    (λ _ t e. subst (λ (x : Record). IsWholePeriodsAfter x.attributes.period x.release t) (sym here) (aligned t e))
    (ap (λ (x : Record). x.started) here ∙ begun) normal (λ m is. cc) (λ _. refl))

-- a move to a step starts and stops no process
pub started_step : (roster : Roster) (p step : ℕ) → p < length roster.records → (q : ℕ)
    → (record_at (set_step roster p step) q).started ≡ (record_at roster q).started
started_step roster p step known =
    each_stays (replaces_record roster p known (record (record_at roster p) { step = step }) refl 0)
    (λ s t. t.started ≡ s.started) (λ _. refl) refl

-- time that passes over no due and no deadline leaves every process in time
pub in_time_later : (roster : Roster) (t : ℕ) → AreInTime roster → roster.now ≤ t → HasNoDueBelow roster t → HasNoDeadlineBelow roster t
    → AreInTime (advance_to roster t)
in_time_later roster t before later dues deadlines p = record {
  due = dues p;
  deadline = deadlines p;
  release = omega (arith, later, (before p).release);
  period = (before p).period;
}

-- changes of several processes, each of which gives one stamp at the most, while this holds
module _ (next : Roster → Option ℕ) (change : Roster → ℕ → Changed) (Holds : Roster → Type 0)
    (stays : (roster : Roster) (p : ℕ) → Holds roster → next roster ≡ Some p → Holds (change roster p).roster)
    (one : (roster : Roster) (p : ℕ) → Holds roster → next roster ≡ Some p → Reaches 1 roster (change roster p).roster) where
  reaches_and : (left : ℕ) (others : Roster → Changed) → ((roster : Roster) → Holds roster → Reaches left roster (others roster).roster)
      → (roster : Roster) → Holds roster → (found : Option ℕ) → next roster ≡ found
      → Reaches (1 + left) roster (next_and others change roster found).roster
  reaches_and left others rest roster holds None is = reaches_none (1 + left) roster
  reaches_and left others rest roster holds (Some p) is =
      reaches_then 1 left (one roster p holds is) (rest (change roster p).roster (stays roster p holds is))

  pub reaches_in_turn : (left : ℕ) (roster : Roster) → Holds roster → Reaches left roster (in_turn next change left roster).roster
  reaches_in_turn zero roster holds = reaches_none 0 roster
  reaches_in_turn (suc left) roster holds =
      reaches_more (1 + left) (suc left) (omega arith)
      (reaches_and left (in_turn next change left) (reaches_in_turn left) roster holds (next roster) refl)

-- changes of several processes, each of which gives at most one stamp for each notice, while this
-- holds
module _ (next : Roster → Option ℕ) (change : Roster → ℕ → Changed) (Holds : Roster → Type 0)
    (stays : (roster : Roster) (p : ℕ) → Holds roster → next roster ≡ Some p → Holds (change roster p).roster)
    (tells : (roster : Roster) (p : ℕ) → Holds roster → next roster ≡ Some p
    → Reaches (length (change roster p).notices) roster (change roster p).roster) where
  told_and : (others : Roster → Changed)
      → ((roster : Roster) → Holds roster → Reaches (length (others roster).notices) roster (others roster).roster)
      → (roster : Roster) → Holds roster → (found : Option ℕ) → next roster ≡ found
      → Reaches (length (next_and others change roster found).notices) roster (next_and others change roster found).roster
  told_and others rest roster holds None is = reaches_none 0 roster
  told_and others rest roster holds (Some p) is =
      let first = change roster p in
      let second = others first.roster in
      reaches_more (length first.notices + length second.notices) (length (first.notices ++ second.notices))
      (omega (arith, length-append first.notices second.notices))
      (reaches_then (length first.notices) (length second.notices) (tells roster p holds is)
      (rest first.roster (stays roster p holds is)))

  pub reaches_told : (left : ℕ) (roster : Roster) → Holds roster
      → Reaches (length (in_turn next change left roster).notices) roster (in_turn next change left roster).roster
  reaches_told zero roster holds = reaches_none 0 roster
  reaches_told (suc left) roster holds = told_and (in_turn next change left) (reaches_told left) roster holds (next roster) refl
