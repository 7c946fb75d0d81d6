-- The waits that processes asked for, as records change.
use Rattle.std.proofs.Common.{◌≡◌, ℕ, ◌<◌, ◌==◌, ◌&&◌, Bool, true, false, List, [], ◌++◌, length, Option, None, Some, nat_lt, ◌⊎◌, refl, sym, ◌∙◌, ap, arith, inl, inr, set, get_or}
use Rattle.std.specs.Option.{option_and_then}
use Rattle.std.proofs.lemmas.List.{get_or-set_other, get_or_past, length-set}
use Rattle.std.proofs.lemmas.Option.{none-some, same_Some}
use Rattle.std.proofs.lemmas.Grind.{get_or-set_at}
use Rattle.std.proofs.lemmas.Bool.{both_ways, cond_both, cases_eq, cases_Bool, eq-eqb, eqb-true, ltb-true, ltb-false}
use Rattle.std.proofs.lemmas.List.Folds.{list_any-append}
use Rattle.apex_laws.specs.Terms.{Call, Caller, Message, Queue, Record, Suspender, Wait, Notice}
use Rattle.apex_types.specs.declared.entries.Caller.TheVariants.{Process}
use Rattle.apex_machine.specs.declared.records.Suspender.TheVariants.{Itself, Other}
use Rattle.apex_machine.specs.declared.records.Queue.TheVariants as queues
use Rattle.apex_machine.specs.declared.records.Wait.TheVariants.{Normal, Start, Time, Period}
use Rattle.apex_machine.specs.processes.Roster.{Roster, nobody, record_at, with_record}
use Rattle.apex_machine.specs.processes.Stamps.{is_by_itself, suspension_awake, awake, waiting, block, unblock, release, released_at, newest, readied, receive}
use Rattle.apex_machine.specs.services.Waking.{first_in, granted, grant_all}
use Rattle.apex_machine.specs.services.Calls.{queue_named}
use Rattle.apex_machine.specs.processes.Queues.{queue_of, is_same_queue, is_queue}
use Rattle.apex_machine.specs.processes.Waiters.{first_waiter, waits_in}
use Rattle.apex_machine.specs.processes.Running.{is_eligible}
use Rattle.apex_machine.proofs.InTurn.{holds_in_turn}
use Rattle.apex_machine.proofs.Starts.{first_stands, queue_itself, waits_there}
use Rattle.apex_laws.specs.AskedWaits.{begins, asked_of, or_suspended, awaited, AreHeldBack}
use Rattle.apex_laws.proofs.Satisfied.{Asks, AwaitsAt, WokenAt, WokenBy, begins_named, is_waking, wakes}
use Rattle.apex_laws.proofs.Truths.{and_true, or_false}

-- the wait that a process asked for, after a change of the record of process p
wait_after : (records : List Record) (p q : ℕ) (r : Record) (w : Wait)
    → awaited (get_or (set records p r) q nobody) ≡ Some w
    → ((q ≡ p) × (awaited r ≡ Some w)) ⊎ (awaited (get_or records q nobody) ≡ Some w)
wait_after records p q r w h = elim (cases_eq q p) [
  | inl same ↦ elim (cases_Bool (nat_lt q (length (set records p r)))) [
    | inl inside ↦
        let within : p < length records = omega (arith, ltb-true _ _ inside, same, length-set records p r) in
        let here : get_or (set records p r) q nobody ≡ r = get_or-set_at records p q r nobody same within in
        inl (same, ap awaited (sym here) ∙ h)
    | inr past ↦
        let none : get_or (set records p r) q nobody ≡ nobody = get_or_past (set records p r) q nobody (ltb-false _ _ past) in
        let e : None ≡ Some w = ap awaited (sym none) ∙ h in
        absurd (none-some w e)
  ]
  | inr differs ↦ inr (ap awaited (sym (get_or-set_other records p q r nobody differs)) ∙ h)
]

-- a process in the queue of an object, and its wait, which it asked for
pub record IsWaitAt (queue : Queue) (r : Record) (w : Wait) : Type 0 where
  pub waits : r.wait ≡ Some w
  pub asked : awaited r ≡ Some w
  pub queued : queue_of w ≡ Some queue

wait_at : (queue : Queue) (r : Record) (w : Wait) → asked_of (Some w) ≡ Some w → r.wait ≡ Some w → queue_of w ≡ Some queue
    → (v : Wait) × IsWaitAt queue r v
wait_at queue r w plain is queued =
    (w, record { waits = is; asked = rw is (ap (λ asked. or_suspended asked (is_by_itself r.suspended)) plain); queued = queued })

stands_by : (queue : Queue) → is_same_queue queues.Normal queue ≡ false → (r : Record) (wait : Option Wait) → r.wait ≡ wait
    → option_and_then queue_of wait ≡ Some queue → (w : Wait) × IsWaitAt queue r w
stands_by queue apart r None is h = absurd (none-some queue h)
stands_by queue apart r (Some (Normal delay)) is h =
    absurd (both_ways _ apart (ap (is_same_queue queues.Normal) (sym (same_Some queues.Normal queue h))))
stands_by queue apart r (Some Start) is h = absurd (none-some queue h)
stands_by queue apart r (Some Time) is h = absurd (none-some queue h)
stands_by queue apart r (Some Period) is h = absurd (none-some queue h)
stands_by queue apart r (Some w) is h = wait_at queue r w refl is h

-- the first waiter for an object waits for it
pub first_awaits : (roster : Roster) (queue : Queue) (p : ℕ) → is_same_queue queues.Normal queue ≡ false
    → first_waiter roster queue ≡ Some p → (w : Wait) × IsWaitAt queue (record_at roster p) w
first_awaits roster queue p apart e =
    stands_by queue apart (record_at roster p) (record_at roster p).wait refl (first_stands roster queue p e)

pub awaits_at : {queue : Queue} {r : Record} {w : Wait} → IsWaitAt queue r w → AwaitsAt (Some queue) r
awaits_at {queue} {r} {w} stands = (w, stands.asked, stands.queued)

-- a process whose wait it asked for, and has this queue, waits in it
stands_suspended : (by_itself : Bool) (w : Wait) (queue : Queue) → or_suspended None by_itself ≡ Some w → queue_of w ≡ Some queue → ⊥
stands_suspended true w queue h is = none-some queue (ap queue_of (same_Some Time w h) ∙ is)
stands_suspended false w queue h is = none-some w h

awaited_stands : (wait : Option Wait) (by_itself : Bool) (w : Wait) (queue : Queue) → or_suspended (asked_of wait) by_itself ≡ Some w
    → queue_of w ≡ Some queue → option_and_then queue_of wait ≡ Some queue
awaited_stands None by_itself w queue h is = absurd (stands_suspended by_itself w queue h is)
awaited_stands (Some (Normal delay)) by_itself w queue h is = absurd (stands_suspended by_itself w queue h is)
awaited_stands (Some Start) by_itself w queue h is = absurd (stands_suspended by_itself w queue h is)
awaited_stands (Some Period) by_itself w queue h is = absurd (stands_suspended by_itself w queue h is)
awaited_stands (Some Time) by_itself w queue h is = absurd (none-some queue (ap queue_of (same_Some Time w h) ∙ is))
awaited_stands (Some v) by_itself w queue h is = ap queue_of (same_Some v w h) ∙ is

-- a process in a wait that it asked for was in it before
pub record Frees (old new : Roster) : Type 0 where
  pub still : (q : ℕ) (w : Wait) → awaited (record_at new q) ≡ Some w → awaited (record_at old q) ≡ Some w

pub frees_none : (roster : Roster) → Frees roster roster
frees_none roster = record { still = λ q w h. h }

pub frees_then : {first second third : Roster} → Frees first second → Frees second third → Frees first third
frees_then f g = record { still = λ q w h. f.still q w (g.still q w h) }

-- a process that is woken afterwards waited before, too
pub woken_before : {old new : Roster} → Frees old new → (called : Option Call) (q : ℕ) → WokenBy called (record_at new q)
    → WokenBy called (record_at old q)
woken_before {old} {new} frees called q woken = (woken.0, before, woken.2) where
  before : WokenAt woken.0 (record_at old q)
  before = elim woken.1 [
    | inl waits ↦ inl (waits.0, frees.still q waits.0 waits.1, waits.2)
    | inr waits ↦ inr (waits.0, (waits.1.0, frees.still q waits.1.0 waits.1.1, waits.1.2))
  ]

-- a process's record changes, and it waits for no more than before
pub frees_moved : (old new : Roster) (p : ℕ) (r : Record) → new.records ≡ set old.records p r
    → ((w : Wait) → awaited r ≡ Some w → awaited (record_at old p) ≡ Some w) → Frees old new
frees_moved old new p r is less = record { still = still } where
  still : (q : ℕ) (w : Wait) → awaited (record_at new q) ≡ Some w → awaited (record_at old q) ≡ Some w
  still q w h = elim (wait_after old.records p q r w (rw is at h)) [
    | inl at_p ↦ ap (λ (p : ℕ). awaited (record_at old p)) at_p.0 ∙ less w at_p.1
    | inr elsewhere ↦ elsewhere
  ]

-- afterwards it is in no wait that it asked for
pub frees_changed : (old new : Roster) (p : ℕ) (r : Record) → new.records ≡ set old.records p r
    → awaited r ≡ None → Frees old new
frees_changed old new p r is free =
    frees_moved old new p r is (λ w h. absurd (none-some w (sym free ∙ h)))

-- a change of the record of process p, which may make it the newest, and by which it waits for no
-- more than before
pub frees_lessened : (roster : Roster) (p : ℕ) (r : Record) → ((w : Wait) → awaited r ≡ Some w → awaited (record_at roster p) ≡ Some w)
    → Frees roster (readied roster p r)
frees_lessened roster p r less =
    cond_both {A = Roster} (is_eligible roster.mode r) (newest roster p r) (with_record roster p r) (Frees roster)
    (λ _. frees_moved roster (newest roster p r) p (record r { since = roster.young }) refl less)
    (λ _. frees_moved roster (with_record roster p r) p r refl less)

-- a process that wakes waits for nothing that it asked for
pub awake_free : (suspended : Option Suspender) → or_suspended None (is_by_itself (suspension_awake suspended)) ≡ None
awake_free None = refl
awake_free (Some Itself) = refl
awake_free (Some Other) = refl

pub frees_unblock : (roster : Roster) (p : ℕ) → Frees roster (unblock roster p)
frees_unblock roster p =
    frees_lessened roster p (awake (record_at roster p))
    (λ w h. absurd (none-some w (sym (awake_free (record_at roster p).suspended) ∙ h)))

pub frees_release : (roster : Roster) (p : ℕ) → Frees roster (release roster p)
frees_release roster p =
    frees_lessened roster p (released_at roster.now (record_at roster p))
    (λ w h. absurd (none-some w (sym (awake_free (record_at roster p).suspended) ∙ h)))

-- a change by which no process waits that did not wait before
pub asks_freed : (caller : Caller) (called : Option Call) (old new : Roster) → Frees old new
    → Asks caller called old new
asks_freed caller called old new frees = record { still = λ q w h. inl (frees.still q w h) }

-- a change by which no process waits that did not wait before, and then a call
pub asks_later : {caller : Caller} {called : Option Call} {first second third : Roster} → Frees first second
    → Asks caller called second third → Asks caller called first third
asks_later frees asks = record {
  still = λ q w h. elim (asks.still q w h) [ inl before ↦ inl (frees.still q w before) | inr own ↦ inr own ];
}

-- process p is in the wait that its call begins, and the others wait as before
pub asks_waiting : (p : ℕ) (call : Call) (wait : Wait) (r : Record) (old new : Roster)
    → new.records ≡ set old.records p r
    → awaited r ≡ Some wait → begins call ≡ Some wait → Asks (Process p) (Some call) old new
asks_waiting p call wait r old new is waits begun = record {
  still = λ q w h. elim (wait_after old.records p q r w (rw is at h)) [
    | inl at_p ↦ inr (eq-eqb q p at_p.0, begun ∙ sym waits ∙ at_p.1)
    | inr elsewhere ↦ inl elsewhere
  ];
}

-- process p blocks on it
pub asks_blocked : (p : ℕ) (call : Call) (wait : Wait) (due : Option ℕ) (roster : Roster)
    → asked_of (Some wait) ≡ Some wait
    → begins call ≡ Some wait → Asks (Process p) (Some call) roster (block roster p wait due)
asks_blocked p call wait due roster plain begun =
    let suspended = suspension_awake (record_at roster p).suspended in
    asks_waiting p call wait (record (waiting (record_at roster p) wait due) { since = roster.young }) roster
    (block roster p wait due) refl
    (ap (λ a. or_suspended a (is_by_itself suspended)) plain) begun

pub waits_in_queue : (queue : Queue) (r : Record) (w : Wait) → awaited r ≡ Some w → queue_of w ≡ Some queue → waits_in queue r ≡ true
waits_in_queue queue r w waits is =
    waits_there queue r (awaited_stands r.wait (is_by_itself r.suspended) w queue waits is)

-- a process that waits in this queue afterwards waited there before
abbrev pub IsStill : Queue → Roster → Roster → Type 0
IsStill queue old new = (p : ℕ) (w : Wait) → awaited (record_at new p) ≡ Some w → queue_of w ≡ Some queue
    → awaited (record_at old p) ≡ Some w

-- the call names another object than that of this queue
abbrev pub IsElsewhere : Queue → Call → Type 0
IsElsewhere queue call = is_queue queue (queue_named call) ≡ false

-- a call that names another object leaves the queue as it is
pub still_elsewhere : (queue : Queue) (caller : Caller) (call : Call) (old new : Roster) → IsElsewhere queue call
    → Asks caller (Some call) old new → IsStill queue old new
still_elsewhere queue caller call old new elsewhere asks p w waits is = elim (asks.still p w waits) [
  | inl before ↦ before
  | inr own ↦
      let named : queue_named call ≡ Some queue = begins_named call w own.1 ∙ is in
      absurd (both_ways _ elsewhere (rw named (queue_itself queue)))
]

pub still_freed : (queue : Queue) (old new : Roster) → Frees old new → IsStill queue old new
still_freed queue old new frees p w waits is = frees.still p w waits

-- a process that is held back stays so while the object lacks what it waits for
module _ (Lacks : Wait → Type 0) (queue : Queue) where
  pub held_still : (old new : Roster) → AreHeldBack Lacks queue old → IsStill queue old new → AreHeldBack Lacks queue new
  held_still old new held still p w waits is = held p w (still p w waits is) is

  -- so is a caller that begins to wait
  pub held_asking : (caller : Caller) (call : Call) (old new : Roster) → AreHeldBack Lacks queue old → Asks caller (Some call) old new
      → ((w : Wait) → begins call ≡ Some w → Lacks w) → AreHeldBack Lacks queue new
  held_asking caller call old new held asks lacks p w waits is = elim (asks.still p w waits) [
    | inl before ↦ held p w before is
    | inr own ↦ lacks w own.1
  ]

  -- and none is held back if none waits there
  pub held_nobody : (roster : Roster) → ((p : ℕ) → waits_in queue (record_at roster p) ≡ false) → AreHeldBack Lacks queue roster
  held_nobody roster none p w waits is =
      absurd (both_ways _ (none p) (waits_in_queue queue (record_at roster p) w waits is))

-- a process that has what it waited for no longer waits
pub frees_granted : (message : Option Message) (roster : Roster) (p : ℕ) → Frees roster (granted message roster p).roster
frees_granted None roster p = frees_unblock roster p
frees_granted (Some message) roster p =
    let r : Record = record (record_at roster p) { inbox = Some message } in
    frees_then (frees_moved roster (receive roster p message) p r refl (λ w h. h)) (frees_unblock (receive roster p message) p)

-- all processes that have what they waited for had waited in their queue, and no process waits that
-- did not wait before
pub record AreGranted (queue : Queue) (old new : Roster) (notices : List Notice) : Type 0 where
  pub frees : Frees old new
  pub waited : (q : ℕ) → wakes q notices ≡ true → AwaitsAt (Some queue) (record_at old q)

module _ (queue : Queue) (message : Option Message) (apart : is_same_queue queues.Normal queue ≡ false) where
  one_wakes : (roster : Roster) (p q : ℕ) → wakes q (granted message roster p).notices ≡ true → q ≡ p
  one_wakes roster p q = by_message message where
    by_message : (message : Option Message) → wakes q (granted message roster p).notices ≡ true → q ≡ p
    by_message None h = eqb-true q p (rw (or_false (q == p && true), and_true (q == p)) at h)
    by_message (Some m) h = eqb-true q p (rw (or_false (q == p && true), and_true (q == p)) at h)

  one_granted : (old roster : Roster) (notices : List Notice) (p : ℕ) → first_in queue roster ≡ Some p → AreGranted queue old roster notices
      → AreGranted queue old (granted message roster p).roster (notices ++ (granted message roster p).notices)
  one_granted old roster notices p is before =
      let waits = first_awaits roster queue p apart is in
      record {
        frees = frees_then before.frees (frees_granted message roster p);
        waited = λ q h. elim (cases_Bool (wakes q notices)) [
          | inl earlier ↦ before.waited q earlier
          | inr not_earlier ↦
              let told = list_any-append (is_waking q) notices (granted message roster p).notices in
              let here = one_wakes roster p q (rw (told, not_earlier) at h) in
              (waits.0, before.frees.still q waits.0 (ap (λ (k : ℕ). awaited (record_at roster k)) here ∙ waits.1.asked), waits.1.queued)
        ];
      }

  pub all_granted : (roster : Roster) → AreGranted queue roster (grant_all queue message roster).roster (grant_all queue message roster).notices
  unfolding grant_all
  all_granted roster =
      holds_in_turn (first_in queue) (granted message) (AreGranted queue roster)
      (λ r notices p is before. one_granted roster r notices p is before)
      (length roster.records) roster []
      (record { frees = frees_none roster; waited = λ q h. absurd (both_ways false refl h) })
