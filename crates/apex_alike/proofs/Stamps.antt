-- The changes of records and stamps keep rosters alike.
use Rattle.std.proofs.Common.{◌≡◌, ℕ, ◌+◌, ◌-◌, ◌*◌, ◌/◌, ◌<◌, ◌≤◌, ◌⊎◌, ◌==◌, Bool, true, false, ◌&&◌, ◌||◌, not, List, [], ◌∷◌, length, Option, None, Some, is_none, inl, inr, option_map, refl, ◌∙◌, ap, arith}
use Rattle.std.proofs.lemmas.Bool.{both_ways}
use Rattle.std.proofs.lemmas.List.{length-set, set-set}
use Rattle.std.proofs.lemmas.Option.{none-some}
use Rattle.apex_laws.specs.Terms.{Holding, Message, Mode, Record, Timeout, Wait}
use Rattle.apex_machine.specs.declared.records.Suspender.TheVariants.{Other}
use Rattle.apex_types.specs.declared.calls.Timeout.TheVariants.{Poll, Ticks, Infinite}
use Rattle.apex_types.specs.declared.modes.Mode.TheVariants.{Idle, ColdStart, Normal as ModeNormal}
use Rattle.apex_machine.proofs.Starts.{early_ineligible}
use Rattle.apex_machine.specs.declared.records.Wait.TheVariants.{Normal, Start, Period}
use Rattle.apex_machine.specs.processes.Dues.{due_after}
use Rattle.apex_machine.specs.processes.Owners.{owns_some}
use Rattle.apex_machine.specs.processes.Periods.{awaits_first, next_release, release_after}
use Rattle.apex_machine.specs.processes.Roster.{Roster, record_at, with_record}
use Rattle.apex_types.specs.Modes.{is_normal}
use Rattle.apex_machine.specs.processes.Running.{is_eligible, runs_on}
use Rattle.apex_machine.specs.processes.Stamps as stamps
use Rattle.apex_machine.specs.processes.Stamps.{awake, is_by_itself, is_level, newest, readied, released_at, reset, self_suspended, stopped, unsuspended, waiting}
use Rattle.apex_machine.specs.processes.Waiters.{goes_by_priority, queue_in}
use Rattle.std.proofs.Math.Nat.{add-mul, mul-add-div_right}
use Rattle.apex_machine.proofs.Periods.{HasSomeTicks}
use Rattle.apex_machine.proofs.Rosters.{at_record}
use Rattle.apex_alike.specs.Alike.{AreAlike, AreRivals, IsLater, ServesAs, ServesFor, awaits_normal, later, moved}
use Rattle.apex_alike.proofs.Changes.{alike_levelled, alike_newest, alike_readied, alike_record, both_cond, joins_by, known2}

-- a change of the record that touches neither stamp, release nor inbox
pub later_by : {d now : ℕ} {r s : Record} (is : IsLater d now r s) (g : Record → Record)
    → g (moved d is.since is.release is.inbox r) ≡ moved d is.since is.release is.inbox (g r)
    → ((g r).started ≡ true → awaits_first (g r).wait ≡ false → ServesFor d now (g r).attributes.period (g r).release is.release)
    → (awaits_normal (g r).wait ≡ true → (g r).due ≡ None) → (g r).release ≤ now
    → ((period : ℕ) → (g r).attributes.period ≡ Some period → 1 ≤ period)
    → IsLater d now (g r) (g s)
later_by is g commutes released undue before spans = record {
  since = is.since;
  release = is.release;
  inbox = is.inbox;
  is = ap g is.is ∙ commutes;
  released = released;
  undue = undue;
  before = before;
  spans = spans;
}

-- an instant from now on
pub later_from : (d now now2 n : ℕ) → now2 ≡ now + d → Some (now2 + n) ≡ later d (Some (now + n))
later_from d now now2 n e = let f : now2 + n ≡ now + n + d = omega (arith, e) in ap Some f

-- the records of processes that wake, wait, are stopped and so on
-- a release at this moment
serves_now : (d now now2 : ℕ) (period : Option ℕ) → now2 ≡ now + d → ServesFor d now period now now2
serves_now d now now2 None e = tt
serves_now d now now2 (Some n) e = record { periods = 0; is = omega (arith, e); past = inl refl }

module _ {d now : ℕ} {r s : Record} (is : IsLater d now r s) where
  pub later_awake : awaits_first r.wait ≡ false → IsLater d now (awake r) (awake s)
  later_awake free = later_by is awake refl (λ begun _. is.released begun free) (λ h. refl) is.before is.spans

  later_deadline : (now2 : ℕ) → now2 ≡ now + d → (capacity : Option ℕ)
      → option_map (λ c. now2 + c) capacity ≡ later d (option_map (λ c. now + c) capacity)
  later_deadline now2 e None = refl
  later_deadline now2 e (Some c) = later_from d now now2 c e

  pub later_released : (now2 : ℕ) → now2 ≡ now + d → IsLater d now (released_at now r) (released_at now2 s)
  later_released now2 e = record {
    since = is.since;
    release = now2;
    inbox = is.inbox;
    is = ap (released_at now2) is.is
        ∙ ap (λ (t : Option ℕ). record (moved d is.since now2 is.inbox (released_at now r)) { deadline = t })
        (later_deadline now2 e r.attributes.capacity);
    released = λ begun free. serves_now d now now2 r.attributes.period e;
    undue = λ h. refl;
    before = omega arith;
    spans = is.spans;
  }

  pub later_waiting : (wait : Wait) (due due2 : Option ℕ) → due2 ≡ later d due
      → (awaits_first (Some wait) ≡ false → awaits_first r.wait ≡ false) → (awaits_normal (Some wait) ≡ true → due ≡ None)
      → IsLater d now (waiting r wait due) (waiting s wait due2)
  later_waiting wait due due2 e free undue = record {
    since = is.since;
    release = is.release;
    inbox = is.inbox;
    is = ap (λ (x : Record). waiting x wait due2) is.is
        ∙ ap (λ (t : Option ℕ). record (moved d is.since is.release is.inbox (waiting r wait due)) { due = t }) e;
    released = λ begun later_free. is.released begun (free later_free);
    undue = undue;
    before = is.before;
    spans = is.spans;
  }

  pub later_stopped : IsLater d now (stopped r) (stopped s)
  later_stopped = record {
    since = is.since;
    release = is.release;
    inbox = None;
    is = ap stopped is.is;
    released = λ begun. absurd (both_ways false refl begun);
    undue = λ h. refl;
    before = is.before;
    spans = is.spans;
  }

  pub later_self_suspended : (due due2 : Option ℕ) → due2 ≡ later d due → awaits_first r.wait ≡ false
      → IsLater d now (self_suspended r due) (self_suspended s due2)
  later_self_suspended due due2 e free = record {
    since = is.since;
    release = is.release;
    inbox = is.inbox;
    is = ap (λ (x : Record). self_suspended x due2) is.is
        ∙ ap (λ (t : Option ℕ). record (moved d is.since is.release is.inbox (self_suspended r due)) { due = t }) e;
    released = λ begun _. is.released begun free;
    undue = λ h. absurd (both_ways false refl h);
    before = is.before;
    spans = is.spans;
  }

  pub later_set_deadline : (deadline deadline2 : Option ℕ) → deadline2 ≡ later d deadline
      → IsLater d now (record r { deadline = deadline }) (record s { deadline = deadline2 })
  later_set_deadline deadline deadline2 e = record {
    since = is.since;
    release = is.release;
    inbox = is.inbox;
    is = ap (λ (x : Record). record x { deadline = deadline2 }) is.is
        ∙ ap (λ (t : Option ℕ). record (moved d is.since is.release is.inbox r) { deadline = t }) e;
    released = is.released;
    undue = is.undue;
    before = is.before;
    spans = is.spans;
  }

  pub later_received : (message : Message) → IsLater d now (record r { inbox = Some message }) (record s { inbox = Some message })
  later_received message = record {
    since = is.since;
    release = is.release;
    inbox = Some message;
    is = ap (λ (x : Record). record x { inbox = Some message }) is.is;
    released = is.released;
    undue = is.undue;
    before = is.before;
    spans = is.spans;
  }

  -- a process at its start is released, or waits for its first release
  pub later_reset_released : (now2 : ℕ) → now2 ≡ now + d → IsLater d now (released_at now (reset r)) (released_at now2 (reset s))
  later_reset_released now2 e = record {
    since = is.since;
    release = now2;
    inbox = None;
    is = ap (λ (x : Record). released_at now2 (reset x)) is.is
        ∙ ap (λ (t : Option ℕ). record (moved d is.since now2 None (released_at now (reset r))) { deadline = t })
        (later_deadline now2 e r.attributes.capacity);
    released = λ begun free. serves_now d now now2 r.attributes.period e;
    undue = λ h. refl;
    before = omega arith;
    spans = is.spans;
  }

  pub later_reset_waiting : (wait : Wait) (due due2 : Option ℕ) → due2 ≡ later d due
      → awaits_first (Some wait) ≡ true → (awaits_normal (Some wait) ≡ true → due ≡ None)
      → IsLater d now (waiting (reset r) wait due) (waiting (reset s) wait due2)
  later_reset_waiting wait due due2 e first undue = record {
    since = is.since;
    release = is.release;
    inbox = None;
    is = ap (λ (x : Record). waiting (reset x) wait due2) is.is
        ∙ ap (λ (t : Option ℕ). record (moved d is.since is.release None (waiting (reset r) wait due)) { due = t }) e;
    released = λ begun free. absurd (both_ways _ free first);
    undue = undue;
    before = is.before;
    spans = is.spans;
  }

-- a new base priority moves the process in its queue
abbrev moves : ℕ → Roster → Record → Bool
moves base roster x =
    (is_eligible roster.mode x && not (owns_some x && is_level (record x { base = base }) x)) || goes_by_priority roster (queue_in x)

-- a record that is set twice
abbrev fresh : Roster → ℕ → Roster
fresh roster q = with_record roster q (reset (record_at roster q))

twice : (roster : Roster) (q : ℕ) (x : Record) → newest (fresh roster q) q x ≡ newest roster q x
twice roster q x = rw (set-set roster.records q (reset (record_at roster q)) (record x { since = roster.young })) refl

once : (roster : Roster) (q : ℕ) (x : Record) → with_record (fresh roster q) q x ≡ with_record roster q x
once roster q x = rw (set-set roster.records q (reset (record_at roster q)) x) refl

fresh_released : (roster : Roster) (q : ℕ) → q < length roster.records
    → stamps.release (fresh roster q) q ≡ readied roster q (released_at roster.now (reset (record_at roster q)))
fresh_released roster q within =
    rw (
      at_record roster q within (reset (record_at roster q)),
      twice roster q (released_at roster.now (reset (record_at roster q))),
      once roster q (released_at roster.now (reset (record_at roster q))),
    ) refl

fresh_blocked : (roster : Roster) (q : ℕ) → q < length roster.records → (wait : Wait) (due : Option ℕ)
    → stamps.block (fresh roster q) q wait due ≡ newest roster q (waiting (reset (record_at roster q)) wait due)
fresh_blocked roster q within wait due =
    rw (at_record roster q within (reset (record_at roster q))) (twice roster q (waiting (reset (record_at roster q)) wait due))

-- a stopped process is not eligible, nor is a suspended one
pub stopped_idle : (mode : Mode) (r : Record) → is_eligible mode (stopped r) ≡ false
stopped_idle Idle r = refl
stopped_idle ColdStart r = refl
stopped_idle ModeNormal r = refl

suspended_idle : (mode : Mode) (r : Record) → is_eligible mode (record r { suspended = Some Other }) ≡ false
suspended_idle mode r = by_all (is_normal mode) r.started (is_none r.wait) where
  by_all : (a b c : Bool) → (a && b && false && c) ≡ false
  by_all true true c = refl
  by_all true false c = refl
  by_all false b c = refl

-- time that goes on
serves_advance : (d now t : ℕ) → now ≤ t → (period : Option ℕ) (one other : ℕ) → ServesFor d now period one other → ServesFor d t period one other
serves_advance d now t forward None one other serves = tt
serves_advance d now t forward (Some n) one other serves = record { periods = serves.periods; is = serves.is; past = by_past serves.past } where
  by_past : (serves.periods ≡ 0) ⊎ (one + n < now) → (serves.periods ≡ 0) ⊎ (one + n < t)
  by_past (inl none) = inl none
  by_past (inr past) = inr (omega (arith, past, forward))

later_advance : {d : ℕ} {r s : Record} (now t : ℕ) → now ≤ t → IsLater d now r s → IsLater d t r s
later_advance {d} {r} {s} now t forward is = record {
  since = is.since;
  release = is.release;
  inbox = is.inbox;
  is = is.is;
  released = λ begun free. serves_advance d now t forward r.attributes.period r.release is.release (is.released begun free);
  undue = is.undue;
  before = omega (arith, is.before, forward);
  spans = is.spans;
}

-- the rosters
module _ {d : ℕ} {first second : Roster} (alike : AreAlike d first second) where
  pub alike_due : (timeout : Timeout) → due_after second timeout ≡ later d (due_after first timeout)
  alike_due Poll = refl
  alike_due (Ticks n) = later_from d first.now second.now n alike.time
  alike_due Infinite = refl

  pub alike_mode : (mode : Mode) → ((core p : ℕ) → runs_on mode core (record_at first p) ≡ true → runs_on first.mode core (record_at first p) ≡ true)
      → AreAlike d (stamps.set_mode first mode) (stamps.set_mode second mode)
  alike_mode mode nobody = record {
    cores = alike.cores;
    mode = refl;
    time = alike.time;
    many = alike.many;
    each = alike.each;
    order = λ p q here there rivals. alike.order p q here there (early p q rivals);
    disciplines = alike.disciplines;
    rules = alike.rules;
    stamped = record { given = alike.stamped.given; newer = alike.stamped.newer; distinct = record { distinct = alike.stamped.distinct.distinct } };
    stamped2 = record { given = alike.stamped2.given; newer = alike.stamped2.newer; distinct = record { distinct = alike.stamped2.distinct.distinct } };
  } where
    early : (p q : ℕ) → AreRivals mode (record_at first p) (record_at first q) → AreRivals first.mode (record_at first p) (record_at first q)
    early p q (inl both) = inl (both.0, nobody both.0 p both.1, nobody both.0 q both.2)
    early p q (inr both) = inr both

  pub alike_advance : (t t2 : ℕ) → t2 ≡ t + d → first.now ≤ t → AreAlike d (stamps.advance_to first t) (stamps.advance_to second t2)
  alike_advance t t2 e forward = record {
    cores = alike.cores;
    mode = alike.mode;
    time = e;
    many = alike.many;
    each = λ p. later_advance first.now t forward (alike.each p);
    order = alike.order;
    disciplines = alike.disciplines;
    rules = alike.rules;
    stamped = record { given = alike.stamped.given; newer = alike.stamped.newer; distinct = record { distinct = alike.stamped.distinct.distinct } };
    stamped2 = record { given = alike.stamped2.given; newer = alike.stamped2.newer; distinct = record { distinct = alike.stamped2.distinct.distinct } };
  }

  module _ (p : ℕ) (known : p < length first.records) where
    abbrev r : Record
    r = record_at first p

    abbrev s : Record
    s = record_at second p

    abbrev is : IsLater d first.now r s
    is = alike.each p

    pub alike_unblock : awaits_first r.wait ≡ false → AreAlike d (stamps.unblock first p) (stamps.unblock second p)
    alike_unblock free = alike_readied alike p known (later_awake is free) refl refl (λ queue h. absurd (none-some queue h))

    pub alike_release : AreAlike d (stamps.release first p) (stamps.release second p)
    alike_release = alike_readied alike p known (later_released is second.now alike.time) refl refl (λ queue h. absurd (none-some queue h))

    pub alike_block : (wait : Wait) (due due2 : Option ℕ) → due2 ≡ later d due
        → (awaits_first (Some wait) ≡ false → awaits_first r.wait ≡ false) → (awaits_normal (Some wait) ≡ true → due ≡ None)
        → AreAlike d (stamps.block first p wait due) (stamps.block second p wait due2)
    alike_block wait due due2 e free undue = alike_newest alike p known (later_waiting is wait due due2 e free undue)

    pub alike_begin : (delay : ℕ) → AreAlike d (stamps.begin first p delay) (stamps.begin second p delay)
    alike_begin delay =
        both_cond {A = Roster} {B = Roster} (AreAlike d) (delay == 0) (delay == 0) refl _ _ _ _
        (λ _. alike_release)
        (λ _. alike_block Start (Some (first.now + delay)) (Some (second.now + delay)) (later_from d first.now second.now delay alike.time)
        (λ h. absurd (both_ways true h refl)) (λ h. absurd (both_ways false refl h)))

    pub alike_stop : AreAlike d (stamps.stop first p) (stamps.stop second p)
    alike_stop = alike_record alike p known (later_stopped is) refl refl
        (joins_by first.mode (stopped r) r (λ h. absurd (both_ways _ (stopped_idle first.mode r) h)) (λ queue h. absurd (none-some queue h)))

    pub alike_suspend : AreAlike d (stamps.suspend first p) (stamps.suspend second p)
    alike_suspend = alike_record alike p known (later_by is (λ x. record x { suspended = Some Other }) refl is.released is.undue is.before is.spans) refl refl
        (joins_by first.mode (record r { suspended = Some Other }) r (λ h. absurd (both_ways _ (suspended_idle first.mode r) h)) (λ queue h. h))

    pub alike_suspend_self : (due due2 : Option ℕ) → due2 ≡ later d due → awaits_first r.wait ≡ false
        → AreAlike d (stamps.suspend_self first p due) (stamps.suspend_self second p due2)
    alike_suspend_self due due2 e free = alike_newest alike p known (later_self_suspended is due due2 e free)

    pub alike_resume : (is_by_itself r.suspended ≡ true → r.wait ≡ None) → AreAlike d (stamps.resume first p) (stamps.resume second p)
    alike_resume one =
        both_cond {A = Roster} {B = Roster} (AreAlike d) (is_by_itself r.suspended) (is_by_itself s.suspended)
        (ap (λ (x : Record). is_by_itself x.suspended) is.is) _ _ _ _
        (λ by. alike_unblock (ap awaits_first (one by)))
        (λ _. alike_readied alike p known (later_by is unsuspended refl is.released is.undue is.before is.spans) refl refl (λ queue h. h))

    moves_alike : (base : ℕ) → moves base second s ≡ moves base first r
    moves_alike base =
        ap (λ m. moves base (record second { mode = m }) s) alike.mode
        ∙ ap (λ m. moves base (record second { mode = first.mode; disciplines = m }) s) alike.disciplines
        ∙ ap (moves base first) is.is

    pub alike_set_priority : (base : ℕ) → AreAlike d (stamps.set_priority first p base) (stamps.set_priority second p base)
    alike_set_priority base =
        let change = λ (x : Record). record x { base = base } in
        let changed : IsLater d first.now (record r { base = base }) (record s { base = base }) = later_by is change refl is.released is.undue is.before is.spans in
        both_cond {A = Roster} {B = Roster} (AreAlike d) (moves base first r) (moves base second s) (moves_alike base) _ _ _ _
        (λ _. alike_newest alike p known changed)
        (λ _. alike_record alike p known changed refl refl (joins_by first.mode (record r { base = base }) r (λ h. (h, refl)) (λ queue h. h)))

    pub alike_place_newest : AreAlike d (stamps.place_newest first p) (stamps.place_newest second p)
    alike_place_newest = alike_newest alike p known is

    pub alike_without_due : AreAlike d (stamps.without_due first p) (stamps.without_due second p)
    alike_without_due = alike_record alike p known (later_by is (λ x. record x { due = None }) refl is.released (λ h. refl) is.before is.spans) refl refl
        (joins_by first.mode (record r { due = None }) r (λ h. (h, refl)) (λ queue h. h))

    pub alike_set_deadline : (deadline deadline2 : Option ℕ) → deadline2 ≡ later d deadline
        → AreAlike d (stamps.set_deadline first p deadline) (stamps.set_deadline second p deadline2)
    alike_set_deadline deadline deadline2 e = alike_record alike p known (later_set_deadline is deadline deadline2 e) refl refl
        (joins_by first.mode (record r { deadline = deadline }) r (λ h. (h, refl)) (λ queue h. h))

    pub alike_set_core : (core : ℕ) → is_normal first.mode ≡ false → AreAlike d (stamps.set_core first p core) (stamps.set_core second p core)
    alike_set_core core early =
        alike_record alike p known (later_by is (λ x. record x { core = core }) refl is.released is.undue is.before is.spans) refl refl
        (joins_by first.mode (record r { core = core }) r (λ h. absurd (both_ways _ (early_ineligible first.mode (record r { core = core }) early) h)) (λ queue h. h))

    pub alike_set_step : (step : ℕ) → AreAlike d (stamps.set_step first p step) (stamps.set_step second p step)
    alike_set_step step = alike_record alike p known (later_by is (λ x. record x { step = step }) refl is.released is.undue is.before is.spans) refl refl
        (joins_by first.mode (record r { step = step }) r (λ h. (h, refl)) (λ queue h. h))

    pub alike_receive : (message : Message) → AreAlike d (stamps.receive first p message) (stamps.receive second p message)
    alike_receive message = alike_record alike p known (later_received is message) refl refl
        (joins_by first.mode (record r { inbox = Some message }) r (λ h. (h, refl)) (λ queue h. h))

    pub alike_own : (owned owned2 : List Holding) → owned2 ≡ owned → AreAlike d (stamps.own first p owned) (stamps.own second p owned2)
    alike_own owned owned2 e =
        rw e (alike_levelled alike p known (later_by is (λ x. record x { owned = owned }) refl is.released is.undue is.before is.spans) refl refl
        (joins_by first.mode (record r { owned = owned }) r (λ h. (h, refl)) (λ queue h. h)))

    pub alike_inherit : (holding : Holding) → awaits_first r.wait ≡ false
        → AreAlike d (stamps.inherit first p holding) (stamps.inherit second p holding)
    alike_inherit holding free =
        alike_readied alike p known
        (later_by is (λ x. awake (record x { owned = holding ∷ [] })) refl (λ begun _. is.released begun free) (λ h. refl) is.before is.spans) refl refl (λ queue h. absurd (none-some queue h))

    -- a start: the process's record is set twice
    pub alike_start : (delay : ℕ) → AreAlike d (stamps.start first p delay) (stamps.start second p delay)
    alike_start delay =
        both_cond {A = Roster} {B = Roster} (AreAlike d) (is_normal first.mode) (is_normal second.mode) (ap is_normal alike.mode) _ _ _ _
        (λ _. both_cond {A = Roster} {B = Roster} (AreAlike d) (delay == 0) (delay == 0) refl _ _ _ _
        (λ _. rw (fresh_released first p known, fresh_released second p (known2 alike p known))
        (alike_readied alike p known (later_reset_released is second.now alike.time) refl refl (λ queue h. absurd (none-some queue h))))
        (λ _. rw (fresh_blocked first p known Start (Some (first.now + delay)), fresh_blocked second p (known2 alike p known) Start (Some (second.now + delay)))
        (alike_newest alike p known (later_reset_waiting is Start _ _ (later_from d first.now second.now delay alike.time) refl (λ h. absurd (both_ways false refl h))))))
        (λ _. rw (fresh_blocked first p known (Normal delay) None, fresh_blocked second p (known2 alike p known) (Normal delay) None)
        (alike_newest alike p known (later_reset_waiting is (Normal delay) None None refl refl (λ h. refl))))

-- the next release of a process that has been released
next_later : (d now now2 release release2 period : ℕ) → now2 ≡ now + d → 1 ≤ period → release ≤ now → ServesAs d now period release release2
    → next_release now2 release2 period ≡ next_release now release period + d
next_later d now now2 release release2 period e some before serves =
    let k = serves.periods in
    let gone : now2 - release2 ≡ k * period + (now - release) = omega (arith, e, before, serves.is) in
    let passed : (now2 - release2) / period ≡ k + (now - release) / period = rw gone (mul-add-div_right some k (now - release)) in
    let split : (k + ((now - release) / period + 1)) * period ≡ k * period + ((now - release) / period + 1) * period = add-mul k ((now - release) / period + 1) period in
    let same : (now2 - release2) / period + 1 ≡ k + ((now - release) / period + 1) = omega (arith, passed) in
    rw same (omega (arith, split, serves.is))

release_after_later : {d now : ℕ} {r s : Record} (is : IsLater d now r s) (now2 : ℕ) → now2 ≡ now + d → r.started ≡ true → awaits_first r.wait ≡ false → release_after now2 s ≡ later d (release_after now r)
release_after_later {d} {now} {r} {s} is now2 e begun free =
    ap (release_after now2) is.is ∙ by_period r.attributes.period is.spans (is.released begun free) where
      by_period : (period : Option ℕ) → HasSomeTicks period → ServesFor d now period r.release is.release
          → option_map (next_release now2 is.release) period ≡ later d (option_map (next_release now r.release) period)
      by_period None ticks serves = refl
      by_period (Some n) ticks serves =
          ap Some (next_later d now now2 r.release is.release n e (ticks n refl) is.before serves)

pub alike_await_release : {d : ℕ} {first second : Roster} (alike : AreAlike d first second) (p : ℕ) (known : p < length first.records)
    → (record_at first p).started ≡ true → awaits_first (record_at first p).wait ≡ false
    → AreAlike d (stamps.await_release first p) (stamps.await_release second p)
alike_await_release {d} {first} {second} alike p known begun free =
    let cleared = alike_set_deadline alike p known None None refl in
    let known_so : p < length (stamps.set_deadline first p None).records = rw (length-set first.records p (record (record_at first p) { deadline = None })) known in
    alike_block cleared p known_so Period (release_after first.now (record_at first p)) (release_after second.now (record_at second p))
    (release_after_later (alike.each p) second.now alike.time begun free)
    (λ _. rw (at_record first p known (record (record_at first p) { deadline = None })) free)
    (λ h. absurd (both_ways false refl h))
