-- Objects for which processes wait in a queue: the facts that their services keep, and the effect of
-- an entry on them.
use Rattle.std.proofs.Common.{◌≡◌, ◌≢◌, ℕ, Bool, true, false, ◌||◌, cond, fold, filter, List, [], ◌∷◌, ◌++◌, flat_map, All, Option, Some, option_and_then, refl, ◌∙◌, sym, ap, subst, append-nil, inl}
use Rattle.std.proofs.lemmas.List.Elements.{All-cons, All-head, All-tail}
use Rattle.std.proofs.lemmas.List.Sums.{fold-append}
use Rattle.std.proofs.lemmas.Option.{same_Some}
use Rattle.apex_laws.specs.Terms.{Call, Caller, Entry, Message, ObjectCall, Queue, Reply, ReturnCode, Timeout, Wait, Who}
use Rattle.apex_types.specs.declared.entries.Caller.TheVariants.{Process}
use Rattle.apex_types.specs.declared.calls.Named.TheVariants.{Known}
use Rattle.apex_types.specs.declared.calls.ObjectCall.TheVariants.{Create, KindService}
use Rattle.apex_machine.specs.declared.records.Queue.TheVariants as queues
use Rattle.apex_types.specs.declared.entries.Reply.TheVariants.{Code, Blocked}
use Rattle.apex_types.specs.declared.entries.ReturnCode.TheVariants.{NotAvailable}
use Rattle.apex_types.specs.declared.calls.Timeout.TheVariants.{Poll, Ticks, Infinite}
use Rattle.apex_machine.specs.declared.records.Wait.TheVariants.{Mutex}
use Rattle.apex_types.specs.Calls.{creation_of, object_of}
use Rattle.apex_machine.specs.services.Calls.{names, queue_named}
use Rattle.apex_machine.specs.services.Callers.{IsReady}
use Rattle.apex_machine.specs.History.{creates, is_created}
use Rattle.apex_machine.specs.services.Objects.{ObjectKind}
use Rattle.apex_machine.specs.processes.Queues.{is_same_queue}
use Rattle.apex_machine.specs.processes.Roster.{Roster}
use Rattle.apex_machine.specs.services.Rows.{Outcome, refused, replied, accepted_with}
use Rattle.apex_machine.specs.services.Satisfied.{answered_by, calls_where, is_no_error, is_satisfied, satisfied_by}
use Rattle.apex_machine.specs.services.Waiting.{blocked, wait_for}
use Rattle.apex_machine.specs.services.Waking.{grant_all}
use Rattle.apex_machine.proofs.Rows.{by_guard}
use Rattle.apex_machine.proofs.Starts.{queue_itself}
use Rattle.apex_machine.proofs.Waking.{none_left, reach_grant_all}
use Rattle.apex_laws.specs.AskedWaits.{AreAsked, AreHeldBack, asked_of, begins}
use Rattle.apex_laws.proofs.AskedWaits.{Frees, all_granted, asks_freed, held_asking, held_nobody, held_still}
use Rattle.apex_laws.proofs.Satisfied.{BeginsAt, all_named, calls-push, created-push, filter_all, handed}
use Rattle.apex_laws.proofs.Serving.{Scene, Serves, ServesBy, serves_same, serves_blocked, arrives_by_each}
use Rattle.apex_laws.proofs.ObjectsServe.{LawsOf, ServesOne, IsQuiet, IsRead, entry_with, quiet_told}
use Rattle.apex_laws.proofs.Truths.{or_false, or_true}

-- a kind of such objects: each has a value, read off the calls that name it
pub record Waited {C X W : Type 0} (kind : ObjectKind C X W) : Type 1 where
  pub V : Type 0
  pub to : ObjectCall ℕ W → Call
  pub creation : Call → Option ℕ
  pub nothing : C
  pub queue : ℕ → Queue
  pub value : C → List Call → V
  -- a value that agrees with the calls
  pub Holds : C → List Call → V → Type 0
  -- with this value the object lacks what the wait is for
  pub Lacks : C → V → Wait → Type 0
  -- the object, created or not, with this value
  pub object : C → Bool → V → X
  pub reads : (c : C) (calls : List Call) (v : V) → Holds c calls v → value c calls ≡ v
  pub after : (history : List Entry) (i : ℕ) (c : C)
      → kind.after history i c ≡ object c (is_created creation i history) (value c (calls_where (names (queue i)) history))
  pub made : (c : C) (created : Bool) (v : V) → kind.made (object c created v) ≡ object c true v
  pub created : (call : ObjectCall ℕ W) → creation (to call) ≡ creation_of call
  pub named : (call : ObjectCall ℕ W) → queue_named (to call) ≡ option_and_then (λ i. Some (queue i)) (object_of call)
  pub differs : (j i : ℕ) → j ≢ i → is_same_queue (queue j) (queue i) ≡ false
  pub unlike : (j m : ℕ) → is_same_queue (queue j) (queues.Mutex m) ≡ false
  pub apart : (i : ℕ) → is_same_queue queues.Normal (queue i) ≡ false
  -- a creation leaves the value
  pub new : (i : ℕ) (c : C) (calls : List Call) (v : V) → Holds c calls v → Holds c (calls ++ to (Create (Known i)) ∷ []) v
  pub status : (roster : Roster) (x : X) (i : ℕ) → is_satisfied (kind.status roster x i) ≡ false

-- calls that begin waits leave a value, if none of these changes it
fold_stays : {V : Type 0} (step : V → Call → V) → ((c : Call) (w : Wait) → begins c ≡ Some w → (v : V) → step v c ≡ v)
    → (at : Option Queue) (calls : List Call) → All (BeginsAt at) calls → (v : V) → fold step v calls ≡ v
fold_stays step still at [] all v = refl
fold_stays step still at (c ∷ calls) all v =
    let here = All-head (BeginsAt at) c calls all in
    ap (λ v. fold step v calls) (still c here.0 here.1 v) ∙ fold_stays step still at calls (All-tail (BeginsAt at) c calls all) v

-- a value that each call changes, after this call, and after others that begin waits and leave it
module _ {V : Type 0} (step : V → Call → V) (start : V) (calls : List Call) (old : V) (c : Call) (is : fold step start calls ≡ old) where
  pub folds_one : fold step start (calls ++ c ∷ []) ≡ step old c
  folds_one = fold-append step start calls (c ∷ []) ∙ rw is refl

  pub folds_on : ((c : Call) (w : Wait) → begins c ≡ Some w → (v : V) → step v c ≡ v)
      → (at : Option Queue) (answered : List Call) → All (BeginsAt at) answered → fold step start (calls ++ c ∷ answered) ≡ step old c
  folds_on still at answered begun =
      fold-append step start calls (c ∷ answered) ∙ rw is (fold_stays step still at answered begun (step old c))

module _ {C X W : Type 0} {kind : ObjectKind C X W} (waited : Waited kind) where
  abbrev pub calls_of : ℕ → List Entry → List Call
  calls_of i history = calls_where (names (waited.queue i)) history

  abbrev pub value_of : C → ℕ → List Entry → waited.V
  value_of c i history = waited.value c (calls_of i history)

  -- the value agrees with the calls, and each process that waits for it lacks what it wants
  pub record KeepsWaited (roster : Roster) (history : List Entry) (i : ℕ) (c : C) : Type 0 where
    pub holds : waited.Holds c (calls_of i history) (value_of c i history)
    pub held : AreHeldBack (waited.Lacks c (value_of c i history)) (waited.queue i) roster

  pub keeps_freed : {old new : Roster} {history : List Entry} {i : ℕ} {c : C} → Frees old new
      → KeepsWaited old history i c → KeepsWaited new history i c
  keeps_freed frees keeps = record { holds = keeps.holds; held = λ p w waits is. keeps.held p w (frees.still p w waits) is }

  pub named_itself : (call : ObjectCall ℕ W) (i : ℕ) → object_of call ≡ Some i → names (waited.queue i) (waited.to call) ≡ true
  named_itself call i is = rw (waited.named call, is) (queue_itself (waited.queue i))

  module _ (history : List Entry) (entry : Entry) (i : ℕ) (c : C) (new : Roster) where
    -- after an entry that satisfies these calls of it
    pub after_calls : (more : List Call) (v : waited.V) (created : Bool)
        → filter (names (waited.queue i)) (satisfied_by history entry) ≡ more
        → (is_created waited.creation i history || creates waited.creation i entry) ≡ created
        → waited.Holds c (calls_of i history ++ more) v → AreHeldBack (waited.Lacks c v) (waited.queue i) new
        → IsRead kind.after KeepsWaited new history entry i c (waited.object c created v)
    after_calls more v created is creating holds held =
        let all : calls_of i (history ++ entry ∷ []) ≡ calls_of i history ++ more =
        calls-push (names (waited.queue i)) history entry ∙ ap (λ calls. calls_of i history ++ calls) is in
        let now = waited.reads c (calls_of i history ++ more) v holds in
        record {
          is = waited.after (history ++ entry ∷ []) i c ∙ rw (created-push waited.creation i history entry, creating, all, now) refl;
          kept = record { holds = rw (value_of, calls_of, all, now) holds; held = rw (value_of, calls_of, all, now) held };
        }

    -- an entry that says nothing of it leaves it
    pub after_quiet : waited.Holds c (calls_of i history) (value_of c i history)
        → IsQuiet (Some (waited.queue i)) waited.creation i history entry
        → AreHeldBack (waited.Lacks c (value_of c i history)) (waited.queue i) new
        → IsRead kind.after KeepsWaited new history entry i c (waited.object c (is_created waited.creation i history) (value_of c i history))
    after_quiet holds quiet held =
        after_calls [] (value_of c i history) (is_created waited.creation i history)
        (filter_all (names (waited.queue i)) false (satisfied_by history entry) quiet.calls)
        (rw quiet.create (or_false (is_created waited.creation i history))) (rw (append-nil (calls_of i history)) holds) held

  -- an object of the kind, before a call
  pub record Before : Type 0 where
    pub history : List Entry
    pub roster : Roster
    pub caller : Caller
    pub i : ℕ
    pub c : C
    pub keeps : KeepsWaited roster history i c
    pub asked : AreAsked roster history
    pub scene : Scene roster caller

  module _ (here : Before) where
    abbrev pub calls_before : List Call
    calls_before = calls_of here.i here.history

    abbrev pub value_before : waited.V
    value_before = value_of here.c here.i here.history

    abbrev pub created_before : Bool
    created_before = is_created waited.creation here.i here.history

    abbrev pub object_before : X
    object_before = waited.object here.c created_before value_before

    abbrev at : Option Queue
    at = Some (waited.queue here.i)

    abbrev asks_for : W → Call
    asks_for service = waited.to (KindService here.i service)

    abbrev pub Served : W → Outcome X → Type 0
    Served service o = ServesOne kind.after KeepsWaited here.history here.roster here.caller (asks_for service) at here.i here.c o

    -- a call that is answered, and not satisfied, leaves it
    read_told : (service : W) (new : Roster) (reply : Reply) (number now : ℕ) (who : Who) → is_satisfied reply ≡ false
        → AreHeldBack (waited.Lacks here.c value_before) (waited.queue here.i) new
        → IsRead kind.after KeepsWaited new here.history (entry_with number now who here.caller (asks_for service) reply []) here.i here.c object_before
    read_told service new reply number now who plain held =
        after_quiet here.history _ here.i here.c new here.keeps.holds
        (quiet_told at waited.creation here.i here.history number now who here.caller (asks_for service) reply plain) held

    pub served_refused : (service : W) (code : ReturnCode) → is_no_error code ≡ false → Served service (refused here.roster object_before code)
    served_refused service code bad = record {
      serves = serves_same here.roster here.caller (asks_for service) at;
      read = λ number now who. read_told service here.roster (Code code) number now who bad here.keeps.held;
    }

    pub guard : (service : W) (holds : Bool) (code : ReturnCode) (rest : Outcome X) → is_no_error code ≡ false
        → (holds ≡ false → Served service rest) → Served service (cond holds (refused here.roster object_before code) rest)
    guard service = by_guard here.roster object_before (Served service) (served_refused service)

    -- a call that is satisfied, and wakes no process, leaves it with this value
    pub served_alone : (service : W) (new : Roster) (reply : Reply) (v : waited.V) → is_satisfied reply ≡ true
        → Serves here.roster here.caller (asks_for service) at new [] → waited.Holds here.c (calls_before ++ asks_for service ∷ []) v
        → AreHeldBack (waited.Lacks here.c v) (waited.queue here.i) new
        → Served service (replied new (waited.object here.c created_before v) reply)
    served_alone service new reply v satisfied serves holds held = record {
      serves = serves;
      read = λ number now who. after_calls here.history _ here.i here.c new (asks_for service ∷ []) v created_before
          (rw (satisfied, named_itself (KindService here.i service) here.i refl) refl)
          (rw (waited.created (KindService here.i service)) (or_false created_before)) holds held;
    }

    -- a call that gives all waiters what they wait for: no process waits then
    pub served_all : (service : W) (message : Option Message) (v : waited.V)
        → ((answered : List Call) → All (BeginsAt at) answered → waited.Holds here.c (calls_before ++ asks_for service ∷ answered) v)
        → Served service (accepted_with (waited.object here.c created_before v) (grant_all (waited.queue here.i) message here.roster))
    served_all service message v holds =
        let queue = waited.queue here.i in
        let granted = all_granted queue message (waited.apart here.i) here.roster in
        let all = grant_all queue message here.roster in
        let call = asks_for service in
        let waits = handed here.roster here.history all.notices at here.asked granted.waited in
        let answered = flat_map (answered_by here.history) all.notices in
        record {
          serves = record {
            arrives = arrives_by_each _ here.scene.few (reach_grant_all queue message here.roster (waited.apart here.i) here.scene.starts);
            asks = asks_freed here.caller (Some call) here.roster all.roster granted.frees;
            woken = λ q woken. inl (granted.waited q woken);
          };
          read = λ number now who. after_calls here.history _ here.i here.c all.roster (call ∷ answered) v created_before
              (filter_all (names queue) true (call ∷ answered)
              (All-cons (λ c. names queue c ≡ true) call answered (named_itself (KindService here.i service) here.i refl) (all_named queue answered waits)))
              (rw (waited.created (KindService here.i service)) (or_false created_before)) (holds answered waits)
              (held_nobody (waited.Lacks here.c v) queue all.roster (none_left queue message here.roster));
        }

    -- its process waits, while the object lacks what the wait is for
    module _ (p : ℕ) (by : here.caller ≡ Process p) (ready : IsReady here.roster p) (service : W) (w : Wait) (plain : asked_of (Some w) ≡ Some w)
        (begun : begins (asks_for service) ≡ Some w) (other : (m : ℕ) → Some w ≡ Some (Mutex m) → ⊥) (lacks : waited.Lacks here.c value_before w) where
      served_blocked : (timeout : Timeout) → Served service (blocked here.roster object_before p w timeout)
      served_blocked timeout =
          let outcome = blocked here.roster object_before p w timeout in
          let serves : ServesBy here.roster here.caller (asks_for service) at outcome =
          subst (λ (caller : Caller). ServesBy here.roster caller (asks_for service) at outcome) (sym by)
          (serves_blocked here.roster p ready (asks_for service) at w timeout plain begun other) in
          record {
            serves = serves;
            read = λ number now who. read_told service _ Blocked number now who refl
                (held_asking (waited.Lacks here.c value_before) (waited.queue here.i) here.caller (asks_for service) here.roster _ here.keeps.held
                serves.asks (λ v is. subst (waited.Lacks here.c value_before) (same_Some w v (sym begun ∙ is)) lacks));
          }

      pub served_waiting : (timeout : Timeout) → Served service (wait_for here.roster object_before p w timeout)
      served_waiting Poll = served_refused service NotAvailable refl
      served_waiting (Ticks n) = served_blocked (Ticks n)
      served_waiting Infinite = served_blocked Infinite

-- the services that the kind alone has keep its facts
abbrev pub OwnServed : {C X W : Type 0} {kind : ObjectKind C X W} → Waited kind → Type 0
OwnServed {C} {X} {W} {kind} waited = (here : Before waited) (service : W)
    → Served waited here service (kind.service here.roster (kind.after here.history here.i here.c) here.i here.caller service)

-- its objects are objects of a kind
abbrev pub waited_laws : {C X W : Type 0} {kind : ObjectKind C X W} (waited : Waited kind) → OwnServed waited → LawsOf kind
waited_laws {C} {X} {W} {kind} waited own = record {
  to = waited.to;
  creation = waited.creation;
  nothing = waited.nothing;
  at = λ i. Some (waited.queue i);
  queue = λ i. Some (waited.queue i);
  Keeps = KeepsWaited waited;
  IsThere = λ roster i. Unit {0};
  created = waited.created;
  named = waited.named;
  differs = λ j i apart. (waited.differs j i apart, waited.differs j i apart);
  itself = λ i own is. is;
  unlike = waited.unlike;
  status = waited.status;
  stays = λ old new history entry i c keeps quiet still.
      rw (waited.after history i c) (after_quiet waited history entry i c new keeps.holds quiet
      (held_still (waited.Lacks c (value_of waited c i history)) (waited.queue i) old new keeps.held still));
  makes = λ roster history entry i c keeps alone made.
      rw (waited.after history i c, waited.made c (is_created waited.creation i history) (value_of waited c i history))
      (after_calls waited history entry i c roster (waited.to (Create (Known i)) ∷ []) (value_of waited c i history) true
      (rw (alone, named_itself waited (Create (Known i)) i refl) refl) (rw made (or_true _))
      (waited.new i c (calls_of waited i history) _ keeps.holds) keeps.held);
  service = λ history roster caller i c service keeps asked scene stands. own (record {
    history = history;
    roster = roster;
    caller = caller;
    i = i;
    c = c;
    keeps = keeps;
    asked = asked;
    scene = scene;
  }) service;
}
