-- The calls that one entry more satisfies, and the latest calls that it leaves: laws for things of
-- all kinds.
use Rattle.std.proofs.Common.{◌≡◌, ℕ, Bool, true, false, ◌&&◌, ◌||◌, ◌==◌, List, [], ◌∷◌, ◌++◌, Option, None, Some, option_and_then, option_to_list, filter, flat_map, All, if◌then◌else◌, ◌⊎◌, inl, inr, refl, sym, ◌∙◌, ap, append_assoc, append-nil}
use Rattle.std.specs.List.{list_any}
use Rattle.std.proofs.lemmas.Bool.{eq-eqb, eqb-true, cases_Bool}
use Rattle.std.proofs.lemmas.List.Elements.{All-nil, All-cons, All-head, All-tail, All-append, All-weaker, filter-append}
use Rattle.std.proofs.lemmas.List.Folds.{list_any-append}
use Rattle.std.proofs.lemmas.List.Sums.{fold-append}
use Rattle.std.proofs.lemmas.Option.{none-some, same_Some}
use Rattle.apex_laws.specs.Terms.{Call, Caller, Entry, Message, Notice, Queue, Record, Timeout, Wait}
use Rattle.apex_types.specs.declared.calls.BlackboardService.TheVariants as blackboard
use Rattle.apex_types.specs.declared.calls.BufferService.TheVariants as buffer
use Rattle.apex_types.specs.declared.calls.Call.TheVariants as call
use Rattle.apex_types.specs.declared.calls.EventFlagService.TheVariants as event_flag
use Rattle.apex_types.specs.declared.calls.MutexService.TheVariants as mutex
use Rattle.apex_types.specs.declared.entries.Notice.TheVariants.{Woken, Released, Missed}
use Rattle.apex_types.specs.declared.calls.CallerCall.TheVariants.{SuspendSelf}
use Rattle.apex_types.specs.declared.calls.ObjectCall.TheVariants.{KindService}
use Rattle.apex_types.specs.declared.calls.SemaphoreService.TheVariants as semaphore
use Rattle.apex_types.specs.declared.entries.ReturnCode.TheVariants.{NoError}
use Rattle.apex_types.specs.declared.calls.TimeCall.TheVariants.{TimedWait}
use Rattle.apex_machine.specs.declared.records.Wait.TheVariants.{Time, Semaphore, Receive, Send, Blackboard, EventFlag, Mutex}
use Rattle.apex_machine.specs.declared.records.Queue.TheVariants as queues
use Rattle.apex_machine.specs.processes.Queues.{queue_of, is_queue}
use Rattle.apex_machine.specs.services.Callers.{is_by_process}
use Rattle.apex_machine.specs.services.Calls.{names, queue_named, is_wait, is_signal, is_receive, sent_message}
use Rattle.apex_machine.specs.History.{creates, is_created}
use Rattle.apex_machine.specs.processes.Roster.{Roster, record_at}
use Rattle.apex_machine.specs.services.Satisfied.{is_no_error, latest_after, latest_call, answered_by, satisfied_by, satisfied_from, calls_where}
use Rattle.apex_machine.proofs.Starts.{queue_itself}
use Rattle.apex_laws.specs.AskedWaits.{begins, awaited, AreAsked}
use Rattle.apex_laws.proofs.Truths.{or_false, or_true}

-- one entry more at the end satisfies its calls last
satisfied_from-push : (before later : List Entry) (e : Entry)
    → satisfied_from before (later ++ e ∷ [])
    ≡ satisfied_from before later ++ satisfied_by (before ++ later) e
satisfied_from-push before [] e =
    append-nil (satisfied_by before e) ∙ ap (λ h. satisfied_by h e) (sym (append-nil before))
satisfied_from-push before (x ∷ later) e =
    let here = satisfied_by before x in
    let rest = satisfied_from (before ++ x ∷ []) later in
    ap (λ calls. here ++ calls) (satisfied_from-push (before ++ x ∷ []) later e)
    ∙ sym (append_assoc here rest (satisfied_by ((before ++ x ∷ []) ++ later) e))
    ∙ ap (λ h. (here ++ rest) ++ satisfied_by h e) (append_assoc before (x ∷ []) later)

pub calls-push : (passes : Call → Bool) (history : List Entry) (e : Entry)
    → calls_where passes (history ++ e ∷ [])
    ≡ calls_where passes history ++ filter passes (satisfied_by history e)
calls-push passes history e =
    ap (filter passes) (satisfied_from-push [] history e)
    ∙ filter-append passes (satisfied_from [] history) (satisfied_by history e)

pub latest-push : (p : ℕ) (history : List Entry) (e : Entry)
    → latest_call p (history ++ e ∷ []) ≡ latest_after p (latest_call p history) e
latest-push p history e = fold-append (latest_after p) None history (e ∷ [])

-- one entry more creates the thing that its call creates
pub created-push : (created : Call → Option ℕ) (i : ℕ) (history : List Entry) (e : Entry)
    → is_created created i (history ++ e ∷ []) ≡ (is_created created i history || creates created i e)
created-push created i history e =
    list_any-append (creates created i) history (e ∷ [])
    ∙ ap (λ b. is_created created i history || b) (or_false (creates created i e))

-- a test on which all calls agree keeps all of them, or none
pub filter_all : (passes : Call → Bool) (b : Bool) (calls : List Call)
    → All (λ c. passes c ≡ b) calls
    → filter passes calls ≡ (if b then calls else [])
filter_all passes true [] all = refl
filter_all passes false [] all = refl
filter_all passes b (c ∷ calls) all =
    let here : passes c ≡ b = All-head (λ c. passes c ≡ b) c calls all in
    let rest = filter_all passes b calls (All-tail (λ c. passes c ≡ b) c calls all) in
    rw (here, rest) (by_test b) where
      by_test : (b : Bool)
          → (if b then c ∷ (if b then calls else []) else (if b then calls else []))
          ≡ (if b then c ∷ calls else [])
      by_test true = refl
      by_test false = refl

-- the notice wakes process p with NO_ERROR
abbrev pub is_waking : ℕ → Notice → Bool
is_waking p (Woken q code) = p == q && is_no_error code
is_waking p (Released q) = false
is_waking p (Missed q kind) = false

-- one of the notices does
abbrev pub wakes : ℕ → List Notice → Bool
wakes p notices = list_any (is_waking p) notices

-- the calls that notices answer are the latest ones of the processes that they wake with NO_ERROR
answered_all : (P : Call → Type 0) (history : List Entry) (notices : List Notice)
    → ((p : ℕ) (c : Call) → wakes p notices ≡ true → latest_call p history ≡ Some c → P c)
    → All P (flat_map (answered_by history) notices)
answered_all P history [] holds = All-nil P
answered_all P history (Released p ∷ notices) holds = answered_all P history notices holds
answered_all P history (Missed p kind ∷ notices) holds = answered_all P history notices holds
answered_all P history (Woken p code ∷ notices) holds =
    All-append P (answered_by history (Woken p code)) (flat_map (answered_by history) notices)
    (here (is_no_error code) (latest_call p history)
    (λ c by is. holds p c (rw (eq-eqb p p refl, by) refl) is))
    (answered_all P history notices
    (λ q c woken is. holds q c (rw woken (or_true (is_waking q (Woken p code)))) is)) where
      here : (by : Bool) (latest : Option Call) → ((c : Call) → by ≡ true → latest ≡ Some c → P c)
          → All P (if by then option_to_list latest else [])
      here false latest holds = All-nil P
      here true None holds = All-nil P
      here true (Some c) holds = All-cons P c [] (holds c refl refl) (All-nil P)

-- process p is in a wait that it asked for, in this queue, or for time if there is none
abbrev pub AwaitsAt : Option Queue → Record → Type 0
AwaitsAt at r = (w : Wait) × (awaited r ≡ Some w) × (queue_of w ≡ at)

-- the call begins a wait in this queue, or for time
abbrev pub BeginsAt : Option Queue → Call → Type 0
BeginsAt at c = (w : Wait) × (begins c ≡ Some w) × (queue_of w ≡ at)

-- a process that a service on this queue may wake: it waits there, or for a mutex, which a stop
-- hands over
abbrev pub WokenAt : Option Queue → Record → Type 0
WokenAt at r = AwaitsAt at r ⊎ ((m : ℕ) × AwaitsAt (Some (queues.Mutex m)) r)

-- a process that a deed with this call may wake: it waits for the object that the call names, for time
-- or for a mutex
abbrev pub WokenBy : Option Call → Record → Type 0
WokenBy called r = (at : Option Queue) × WokenAt at r
    × ((queue : Queue) → at ≡ Some queue → option_and_then queue_named called ≡ Some queue)

-- the call that is answered then
abbrev pub AnsweredAt : Option Queue → Call → Type 0
AnsweredAt at c = BeginsAt at c ⊎ ((m : ℕ) × BeginsAt (Some (queues.Mutex m)) c)

pub answered_at : (roster : Roster) (history : List Entry) (notices : List Notice) (at : Option Queue)
    → AreAsked roster history
    → ((p : ℕ) → wakes p notices ≡ true → WokenAt at (record_at roster p))
    → All (AnsweredAt at) (flat_map (answered_by history) notices)
answered_at roster history notices at asked woken =
    answered_all (AnsweredAt at) history notices
    (λ p c wakes_p is. elim (woken p wakes_p) [
      | inl waits ↦ inl (waits.0, rw is at (asked p waits.0 waits.1), waits.2)
      | inr waits ↦ inr (waits.0, (waits.1.0, rw is at (asked p waits.1.0 waits.1.1), waits.1.2))
    ])

-- if all processes that an entry wakes with NO_ERROR waited there, each call that it answers begins
-- a wait there
pub handed : (roster : Roster) (history : List Entry) (notices : List Notice) (at : Option Queue)
    → AreAsked roster history
    → ((p : ℕ) → wakes p notices ≡ true → AwaitsAt at (record_at roster p))
    → All (BeginsAt at) (flat_map (answered_by history) notices)
handed roster history notices at asked waited =
    answered_all (BeginsAt at) history notices
    (λ p c woken is. let waits = waited p woken in (waits.0, rw is at (asked p waits.0 waits.1), waits.2))

-- the call of one process that is answered, if no other process is woken
pub handed_one : (roster : Roster) (history : List Entry) (p : ℕ) (w : Wait)
    → AreAsked roster history
    → awaited (record_at roster p) ≡ Some w
    → (c : Call) × (latest_call p history ≡ Some c) × (begins c ≡ Some w)
handed_one roster history p w asked waited = found (latest_call p history) (asked p w waited) where
  found : (latest : Option Call) → option_and_then begins latest ≡ Some w
      → (c : Call) × (latest ≡ Some c) × (begins c ≡ Some w)
  found None h = absurd (none-some w h)
  found (Some c) h = (c, refl, h)

-- a call that begins a wait names the object of the wait's queue
pub begins_named : (c : Call) (w : Wait) → begins c ≡ Some w → queue_named c ≡ queue_of w
begins_named (call.Semaphore (KindService t (semaphore.Wait timeout))) w h = ap queue_of (same_Some (Semaphore t) w h)
begins_named (call.Buffer (KindService b (buffer.Send message timeout))) w h = ap queue_of (same_Some (Send b message) w h)
begins_named (call.Buffer (KindService b (buffer.Receive timeout))) w h = ap queue_of (same_Some (Receive b) w h)
begins_named (call.Blackboard (KindService b (blackboard.Read timeout))) w h = ap queue_of (same_Some (Blackboard b) w h)
begins_named (call.EventFlag (KindService e (event_flag.Wait timeout))) w h = ap queue_of (same_Some (EventFlag e) w h)
begins_named (call.Mutex (KindService m (mutex.Acquire timeout))) w h = ap queue_of (same_Some (Mutex m) w h)
begins_named (call.Time (TimedWait timeout)) w h = ap queue_of (same_Some Time w h)
begins_named (call.Caller (SuspendSelf timeout)) w h = ap queue_of (same_Some Time w h)
begins_named _ w h = cc

pub names_begun : (queue : Queue) (at : Option Queue) (c : Call) → BeginsAt at c → names queue c ≡ is_queue queue at
names_begun queue at c begun =
    ap (is_queue queue) (begins_named c begun.0 begun.1 ∙ begun.2)

-- there are two queues, and they are the same
abbrev pub is_near : Option Queue → Option Queue → Bool
is_near None at = false
is_near (Some queue) at = is_queue queue at

pub near_none : (own : Option Queue) → is_near own None ≡ false
near_none None = refl
near_none (Some queue) = refl

-- such a call names no object of another queue
pub far_answered : (own at : Option Queue) (c : Call) → ((m : ℕ) → is_near own (Some (queues.Mutex m)) ≡ false)
    → is_near own at ≡ false → AnsweredAt at c → is_near own (queue_named c) ≡ false
far_answered None at c apart far answered = refl
far_answered (Some queue) at c apart far answered = elim answered [
  | inl begun ↦ names_begun queue at c begun ∙ far
  | inr begun ↦ names_begun queue (Some (queues.Mutex begun.0)) c begun.1 ∙ apart begun.0
]

-- so calls that begin a wait for an object all name it
pub all_named : (queue : Queue) (calls : List Call) → All (BeginsAt (Some queue)) calls → All (λ c. names queue c ≡ true) calls
all_named queue calls begun =
    All-weaker (BeginsAt (Some queue)) (λ c. names queue c ≡ true) (λ c at. names_begun queue (Some queue) c at ∙ queue_itself queue) calls begun

-- the call that begins this wait for an object
asking : Wait → Timeout → Call
asking (Semaphore s) timeout = call.Semaphore (KindService s (semaphore.Wait timeout))
asking (Receive b) timeout = call.Buffer (KindService b (buffer.Receive timeout))
asking (Send b message) timeout = call.Buffer (KindService b (buffer.Send message timeout))
asking (Blackboard b) timeout = call.Blackboard (KindService b (blackboard.Read timeout))
asking (EventFlag e) timeout = call.EventFlag (KindService e (event_flag.Wait timeout))
asking (Mutex m) timeout = call.Mutex (KindService m (mutex.Acquire timeout))
asking _ timeout = call.Time (TimedWait timeout)

begun_by : (c : Call) (w : Wait) → begins c ≡ Some w → (w ≡ Time) ⊎ ((timeout : Timeout) × (c ≡ asking w timeout))
unfolding asking
begun_by (call.Semaphore (KindService s (semaphore.Wait timeout))) w h = inr (timeout, ap (λ v. asking v timeout) (same_Some (Semaphore s) w h))
begun_by (call.Buffer (KindService b (buffer.Receive timeout))) w h = inr (timeout, ap (λ v. asking v timeout) (same_Some (Receive b) w h))
begun_by (call.Buffer (KindService b (buffer.Send message timeout))) w h = inr (timeout, ap (λ v. asking v timeout) (same_Some (Send b message) w h))
begun_by (call.Blackboard (KindService b (blackboard.Read timeout))) w h = inr (timeout, ap (λ v. asking v timeout) (same_Some (Blackboard b) w h))
begun_by (call.EventFlag (KindService e (event_flag.Wait timeout))) w h = inr (timeout, ap (λ v. asking v timeout) (same_Some (EventFlag e) w h))
begun_by (call.Mutex (KindService m (mutex.Acquire timeout))) w h = inr (timeout, ap (λ v. asking v timeout) (same_Some (Mutex m) w h))
begun_by (call.Time (TimedWait timeout)) w h = inl (sym (same_Some Time w h))
begun_by (call.Caller (SuspendSelf timeout)) w h = inl (sym (same_Some Time w h))
begun_by _ w h = absurd (none-some w h)

-- one that begins a wait for a semaphore is a wait and no signal
pub begins_wait : (c : Call) (s : ℕ) → begins c ≡ Some (Semaphore s) → (is_wait c ≡ true) × (is_signal c ≡ false)
unfolding asking
begins_wait c s h = elim (begun_by c (Semaphore s) h) [
  | inl clash ↦ cc
  | inr found ↦ (rw found.1 refl, rw found.1 refl)
]

-- one for a message of a buffer is a receive, and sends none
pub begins_receive : (c : Call) (b : ℕ) → begins c ≡ Some (Receive b) → (is_receive c ≡ true) × (sent_message c ≡ None)
unfolding asking
begins_receive c b h = elim (begun_by c (Receive b) h) [
  | inl clash ↦ cc
  | inr found ↦ (rw found.1 refl, rw found.1 refl)
]

-- one for room in a buffer sends the message
pub begins_send : (c : Call) (b : ℕ) (message : Message) → begins c ≡ Some (Send b message)
    → (is_receive c ≡ false) × (sent_message c ≡ Some message)
unfolding asking
begins_send c b message h = elim (begun_by c (Send b message) h) [
  | inl clash ↦ cc
  | inr found ↦ (rw found.1 refl, rw found.1 refl)
]

-- a process that is afterwards in a wait that it asked for was in it before, or is the caller, and
-- the call begins that wait
pub record Asks (caller : Caller) (called : Option Call) (old new : Roster) : Type 0 where
  pub still : (q : ℕ) (w : Wait) → awaited (record_at new q) ≡ Some w
      → (awaited (record_at old q) ≡ Some w)
      ⊎ ((is_by_process q caller ≡ true) × (option_and_then begins called ≡ Some w))

-- the caller waits for nothing that it asked for
abbrev pub IsIdle : Caller → Roster → Type 0
IsIdle caller roster =
    (q : ℕ) (w : Wait) → is_by_process q caller ≡ true → awaited (record_at roster q) ≡ Some w → ⊥

-- with one entry more it stays true that each process in such a wait asked for it
pub asked-push : (history : List Entry) (e : Entry) (old new : Roster) → IsIdle e.process old
    → AreAsked old history → Asks e.process e.call old new → AreAsked new (history ++ e ∷ [])
asked-push history e old new idle asked asks p w waits =
    let pushed = ap (option_and_then begins) (latest-push p history e) in
    elim (asks.still p w waits) [
      | inl before ↦ elim (cases_Bool (is_by_process p e.process)) [
        | inl by ↦ absurd (idle p w by before)
        | inr not_by ↦ pushed ∙ rw not_by (asked p w before)
      ]
      | inr own ↦ pushed ∙ rw own.0 own.1
    ]

-- one notice wakes no process but its own
pub woken_alone : (q p : ℕ) → wakes q (Woken p NoError ∷ []) ≡ true → q ≡ p
woken_alone q p woken = eqb-true q p (only (q == p) woken) where
  only : (b : Bool) → ((b && true) || false) ≡ true → b ≡ true
  only true h = refl
  only false h = h
