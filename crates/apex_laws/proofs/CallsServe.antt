-- After each service and each tick the objects that it leaves are those that the history then
-- gives.
use Rattle.std.proofs.Common.{◌≡◌, ℕ, ◌<◌, true, false, List, [], ◌∷◌, ◌++◌, length, get_or, Option, None, Some, option_and_then, refl, ◌∙◌}
use Rattle.std.proofs.lemmas.Bool.{both_ways}
use Rattle.std.proofs.lemmas.Option.{none-some}
use Rattle.apex_laws.specs.Premises.{most_given}
use Rattle.apex_laws.specs.Terms.{Call, Caller, Entry, Notice, ObjectCall, Queue, Reply, Who}
use Rattle.apex_types.specs.declared.calls.Call.TheVariants.{Partition, Process as ToProcess, Caller as ToCaller, Time as ToTime, Semaphore as ToSemaphore, Buffer as ToBuffer, Blackboard as ToBlackboard, EventFlag as ToEventFlag, Mutex as ToMutex, Work as ToWork}
use Rattle.apex_types.specs.declared.entries.Caller.TheVariants.{Nobody}
use Rattle.apex_machine.specs.services.BlackboardServices.{blackboard_kind}
use Rattle.apex_machine.specs.services.BufferServices.{buffer_kind}
use Rattle.apex_types.specs.Calls.{object_of}
use Rattle.apex_machine.specs.services.Calls.{created_process, created_semaphore, created_buffer, created_blackboard, created_event_flag, created_mutex, queue_named}
use Rattle.apex_machine.specs.services.EventFlagServices.{event_flag_kind}
use Rattle.apex_machine.specs.Deeds.{Objects, service, with_processes, with_semaphores, with_buffers, with_blackboards, with_event_flags, with_mutexes}
use Rattle.apex_machine.specs.Machine.{objects_after}
use Rattle.apex_machine.specs.services.Objects.{ObjectKind, object_deed, objects_of}
use Rattle.apex_machine.specs.services.MutexServices.{mutex_kind}
use Rattle.apex_machine.specs.services.ProcessServices.{process_kind}
use Rattle.apex_machine.specs.processes.Roster.{Roster, record_at}
use Rattle.apex_machine.specs.services.Rows.{Outcome, within}
use Rattle.apex_machine.specs.services.SemaphoreServices.{semaphore_kind}
use Rattle.apex_machine.specs.table.Table.{Table, IsKnown, IsKnownObject, semaphore_config, buffer_config, blackboard_config, event_flag_config}
use Rattle.apex_machine.proofs.Reaches.{Arrives}
use Rattle.apex_laws.specs.AskedWaits.{AreAsked}
use Rattle.apex_laws.proofs.AskedWaits.{Frees, asks_freed}
use Rattle.apex_laws.proofs.BlackboardsServe.{KeepsBlackboard, blackboard_laws, waited_blackboard}
use Rattle.apex_laws.proofs.BuffersServe.{KeepsBuffer, buffer_laws, waited_buffer}
use Rattle.apex_laws.proofs.EventFlagsServe.{KeepsEventFlag, event_flag_laws, waited_event}
use Rattle.apex_laws.proofs.MutexesServe.{mutex_laws}
use Rattle.apex_laws.proofs.ObjectsServe.{AreRead as AreReadOf, LawsOf, all_elsewhere, all_served, all_uncalled, entry_with, far_then, named_there}
use Rattle.apex_laws.proofs.OthersServe.{ServesNone, served_partition, served_caller, served_time, served_work}
use Rattle.apex_laws.proofs.ProcessesServe.{process_laws}
use Rattle.apex_laws.proofs.Satisfied.{Asks, IsIdle, WokenAt, WokenBy, asked-push, is_near, near_none, wakes}
use Rattle.apex_laws.proofs.SemaphoresServe.{KeepsSemaphore, semaphore_laws, waited_semaphore}
use Rattle.apex_laws.proofs.Serving.{Scene, Serves}
use Rattle.apex_laws.proofs.WaitedServe.{keeps_freed}

-- the kinds of objects
pub data Kind : Type 0 where
  Processes : Kind
  Semaphores : Kind
  Buffers : Kind
  Blackboards : Kind
  EventFlags : Kind
  Mutexes : Kind

-- the queue of an object of a kind, if the kind has queues
abbrev queue_at : Kind → ℕ → Option Queue
queue_at Processes = process_laws.at
queue_at Semaphores = semaphore_laws.at
queue_at Buffers = buffer_laws.at
queue_at Blackboards = blackboard_laws.at
queue_at EventFlags = event_flag_laws.at
queue_at Mutexes = mutex_laws.at

-- the object of a kind that a call creates
abbrev pub created_by : Kind → Call → Option ℕ
created_by Processes = created_process
created_by Semaphores = created_semaphore
created_by Buffers = created_buffer
created_by Blackboards = created_blackboard
created_by EventFlags = created_event_flag
created_by Mutexes = created_mutex

-- work creates no object
pub work_creates : (amount : ℕ) (k : Kind) → created_by k (ToWork amount) ≡ None
work_creates amount Processes = refl
work_creates amount k = refl

-- the facts that are kept of the objects, and of their waiters
pub record AreKept (table : Table) (roster : Roster) (history : List Entry) : Type 0 where
  pub semaphores : (s : ℕ) → s < length table.semaphores → KeepsSemaphore roster history s (semaphore_config table s)
  pub buffers : (b : ℕ) → b < length table.buffers → KeepsBuffer roster history b (buffer_config table b)
  pub blackboards : (b : ℕ) → b < length table.blackboards → KeepsBlackboard roster history b (blackboard_config table b)
  pub event_flags : (e : ℕ) → e < length table.event_flags → KeepsEventFlag roster history e (event_flag_config table e)
  pub asked : AreAsked roster history

-- the objects after an entry are those that the service left, and all facts stay kept
pub record IsExact (table : Table) (history : List Entry) (e : Entry) (left : Objects) (roster : Roster) : Type 0 where
  pub objects : objects_after table (history ++ e ∷ []) ≡ left
  pub kept : AreKept table roster (history ++ e ∷ [])

-- the duties of a service: it arrives at the roster that it leaves, each process that waits there
-- asked for its wait, each that it wakes waited for what its call names, for time or for a mutex, and
-- the objects are exact
pub record ServesCall (table : Table) (history : List Entry) (roster : Roster) (caller : Caller) (call : Call) (o : Outcome Objects) : Type 0 where
  pub arrives : Arrives most_given roster o.roster
  pub asks : Asks caller (Some call) roster o.roster
  pub woken : (q : ℕ) → wakes q o.notices ≡ true → WokenBy (Some call) (record_at roster q)
  pub exact : (number now : ℕ) (who : Who)
      → IsExact table history (entry_with number now who caller call o.reply o.notices) o.object o.roster

-- all facts stay kept if no process waits that did not wait before
pub kept_freed : (table : Table) (history : List Entry) (old new : Roster) → Frees old new → AreKept table old history → AreKept table new history
kept_freed table history old new frees kept = record {
  semaphores = λ s inside. keeps_freed waited_semaphore frees (kept.semaphores s inside);
  buffers = λ b inside. keeps_freed waited_buffer frees (kept.buffers b inside);
  blackboards = λ b inside. keeps_freed waited_blackboard frees (kept.blackboards b inside);
  event_flags = λ e inside. keeps_freed waited_event frees (kept.event_flags e inside);
  asked = λ p w waits. kept.asked p w (frees.still p w waits);
}

module _ (table : Table) (history : List Entry) (roster : Roster) (kept : AreKept table roster history) where
  process_keeps : (p : ℕ) → p < length table.processes → Unit {0}
  process_keeps p inside = tt

  mutex_keeps : (m : ℕ) → m < length table.mutexes → Unit {0}
  mutex_keeps m inside = tt

  -- the objects of a kind after an entry
  abbrev AreRead : Kind → Roster → Entry → Objects → Type 0
  AreRead Processes new e all = AreReadOf process_kind process_laws history roster table.processes process_keeps new e all.processes
  AreRead Semaphores new e all = AreReadOf semaphore_kind semaphore_laws history roster table.semaphores kept.semaphores new e all.semaphores
  AreRead Buffers new e all = AreReadOf buffer_kind buffer_laws history roster table.buffers kept.buffers new e all.buffers
  AreRead Blackboards new e all =
      AreReadOf blackboard_kind blackboard_laws history roster table.blackboards kept.blackboards new e all.blackboards
  AreRead EventFlags new e all = AreReadOf event_flag_kind event_flag_laws history roster table.event_flags kept.event_flags new e all.event_flags
  AreRead Mutexes new e all = AreReadOf mutex_kind mutex_laws history roster table.mutexes mutex_keeps new e all.mutexes

  exact_from : (e : Entry) (all : Objects) (new : Roster) → ((k : Kind) → AreRead k new e all) → AreAsked new (history ++ e ∷ []) → IsExact table history e all new
  exact_from e all new read asked = record {
    objects = rw ((read Processes).are, (read Semaphores).are, (read Buffers).are, (read Blackboards).are, (read EventFlags).are, (read Mutexes).are) refl;
    kept = record {
      semaphores = (read Semaphores).kept;
      buffers = (read Buffers).kept;
      blackboards = (read Blackboards).kept;
      event_flags = (read EventFlags).kept;
      asked = asked;
    };
  }

  abbrev before : Objects
  before = objects_after table history

  -- an entry that leaves the objects of any kind, if this holds of the kind, leaves those of this one
  each_stays : (new : Roster) (e : Entry) (Holds : (ℕ → Option Queue) → (Call → Option ℕ) → Type 0)
      → ((C X W : Type 0) (kind : ObjectKind C X W) (laws : LawsOf kind) (configs : List C)
      → (keeps : (i : ℕ) → i < length configs → laws.Keeps roster history i (get_or configs i laws.nothing)) → Holds laws.at laws.creation
      → AreReadOf kind laws history roster configs keeps new e (objects_of kind history configs))
      → (k : Kind) → Holds (queue_at k) (created_by k) → AreRead k new e before
  each_stays new e Holds stays Processes = stays _ _ _ process_kind process_laws table.processes process_keeps
  each_stays new e Holds stays Semaphores = stays _ _ _ semaphore_kind semaphore_laws table.semaphores kept.semaphores
  each_stays new e Holds stays Buffers = stays _ _ _ buffer_kind buffer_laws table.buffers kept.buffers
  each_stays new e Holds stays Blackboards = stays _ _ _ blackboard_kind blackboard_laws table.blackboards kept.blackboards
  each_stays new e Holds stays EventFlags = stays _ _ _ event_flag_kind event_flag_laws table.event_flags kept.event_flags
  each_stays new e Holds stays Mutexes = stays _ _ _ mutex_kind mutex_laws table.mutexes mutex_keeps

  module _ (caller : Caller) (idle : IsIdle caller roster) where
    -- a call, and its results
    module _ (call : Call) (at : Option Queue) (new : Roster) (reply : Reply) (notices : List Notice) (serves : Serves roster caller call at new notices)
        (number now : ℕ) (who : Who) where
      abbrev entry : Entry
      entry = entry_with number now who caller call reply notices

      asked_after : AreAsked new (history ++ entry ∷ [])
      asked_after = asked-push history entry roster new idle kept.asked serves.asks

      -- a call that names and creates no object of this kind, and wakes none of its waiters
      record IsElsewhere (own : ℕ → Option Queue) (created : Call → Option ℕ) : Type 0 where
        named : (j : ℕ) → is_near (own j) (queue_named call) ≡ false
        far : (j : ℕ) → is_near (own j) at ≡ false
        uncreated : created call ≡ None

      kind_stays : (k : Kind) → IsElsewhere (queue_at k) (created_by k) → AreRead k new entry before
      kind_stays =
          each_stays new entry IsElsewhere (λ C X W kind laws configs keeps is.
          all_elsewhere kind laws history roster configs keeps caller kept.asked call at new reply notices serves
          is.named is.far is.uncreated number now who)

    -- a service of no object
    pub serves_none : (call : Call) (o : Outcome Objects) → ServesNone roster before caller call o → queue_named call ≡ None
        → ((k : Kind) → created_by k call ≡ None) → ServesCall table history roster caller call o
    serves_none call o none unnamed uncreated = record {
      arrives = none.serves.arrives;
      asks = none.serves.asks;
      woken = λ q waking. (None, none.serves.woken q waking, λ queue is. absurd (none-some queue is));
      exact = λ number now who.
          let e = entry_with number now who caller call o.reply o.notices in
          rw none.stays (exact_from e before o.roster
          (λ k. kind_stays call None o.roster o.reply o.notices none.serves number now who k (record {
            named = λ j. rw unnamed (near_none (queue_at k j));
            far = λ j. near_none (queue_at k j);
            uncreated = uncreated k;
          }))
          (asked_after call None o.roster o.reply o.notices none.serves number now who));
    }

    -- a service of one kind of objects: if those of the other kinds stay, each kind's are as it
    -- leaves them
    module _ {C X W : Type 0} (kind : ObjectKind C X W) (laws : LawsOf kind) (configs : List C)
        (keeps : (i : ℕ) → i < length configs → laws.Keeps roster history i (get_or configs i laws.nothing)) where
      -- the kind has other queues than this one, and this call creates none of its objects
      abbrev IsOther : Call → Kind → Type 0
      IsOther call k =
          ((j i : ℕ) → is_near (queue_at k j) (laws.queue i) ≡ false)
          × ((j i : ℕ) → is_near (queue_at k j) (laws.at i) ≡ false) × (created_by k call ≡ None)

      serves_kind : Scene roster caller → ((i : ℕ) → i < length configs → laws.IsThere roster i)
          → (call : ObjectCall ℕ W) → IsKnownObject (length configs) call → (put : List X → Objects)
          → ((new : Roster) (e : Entry) (xs : List X) → AreReadOf kind laws history roster configs keeps new e xs
          → ((k : Kind) → IsOther (laws.to call) k → AreRead k new e before) → (k : Kind) → AreRead k new e (put xs))
          → ServesCall table history roster caller (laws.to call) (within put (object_deed kind roster (objects_of kind history configs) caller call))
      serves_kind scene stands call known put read =
          let all = all_served kind laws history roster configs keeps caller kept.asked scene stands call (object_of call) refl known in
          let object = object_of call in
          record {
            arrives = all.serves.arrives;
            asks = all.serves.asks;
            woken = λ q waking. (
              option_and_then laws.at object,
              all.serves.woken q waking,
              λ queue is. laws.named call ∙ named_there laws object queue is,
            );
            exact = λ number now who. exact_from _ _ _
                (read _ _ _ (all.read number now who)
                (λ k is. kind_stays (laws.to call) _ _ _ _ all.serves number now who k (record {
                  named = λ j. rw (laws.named call) (far_then (queue_at k j) laws.queue (is.0 j) object);
                  far = λ j. far_then (queue_at k j) laws.at (is.1 j) object;
                  uncreated = is.2;
                })))
                (asked_after (laws.to call) _ _ _ _ all.serves number now who);
          }

    -- any service
    pub serves_call : Scene roster caller → length roster.records ≡ length table.processes → (call : Call) → IsKnown table call
        → ServesCall table history roster caller call (service roster before caller call)
    serves_call scene many (Partition call) known =
        serves_none (Partition call) _ (served_partition roster before caller scene call) refl
        (λ k. elim k as (λ k. created_by k (Partition call) ≡ None) [ Processes ↦ refl | k ↦ refl ])
    serves_call scene many (ToCaller call) known =
        serves_none (ToCaller call) _ (served_caller roster before caller scene call) refl
        (λ k. elim k as (λ k. created_by k (ToCaller call) ≡ None) [ Processes ↦ refl | k ↦ refl ])
    serves_call scene many (ToTime call) known =
        serves_none (ToTime call) _ (served_time roster before caller scene call) refl
        (λ k. elim k as (λ k. created_by k (ToTime call) ≡ None) [ Processes ↦ refl | k ↦ refl ])
    serves_call scene many (ToWork amount) known =
        serves_none (ToWork amount) _ (served_work roster before caller amount) refl (work_creates amount)
    serves_call scene many (ToProcess call) known =
        serves_kind process_kind process_laws table.processes process_keeps scene (λ p inside. rw many inside) call known (with_processes before)
        (λ new e xs own stays k. elim k as (λ k. AreRead k new e (with_processes before xs)) [
          | Processes ↦ own
          | k ↦ stays k ((λ j i. refl), (λ j i. refl), refl)
        ])
    serves_call scene many (ToSemaphore call) known =
        serves_kind semaphore_kind semaphore_laws table.semaphores kept.semaphores scene (λ s inside. tt) call known (with_semaphores before)
        (λ new e xs own stays k. elim k as (λ k. AreRead k new e (with_semaphores before xs)) [
          | Semaphores ↦ own
          | k ↦ stays k ((λ j i. refl), (λ j i. refl), refl)
        ])
    serves_call scene many (ToBuffer call) known =
        serves_kind buffer_kind buffer_laws table.buffers kept.buffers scene (λ b inside. tt) call known (with_buffers before)
        (λ new e xs own stays k. elim k as (λ k. AreRead k new e (with_buffers before xs)) [
          | Buffers ↦ own
          | k ↦ stays k ((λ j i. refl), (λ j i. refl), refl)
        ])
    serves_call scene many (ToBlackboard call) known =
        serves_kind blackboard_kind blackboard_laws table.blackboards kept.blackboards scene (λ b inside. tt) call known (with_blackboards before)
        (λ new e xs own stays k. elim k as (λ k. AreRead k new e (with_blackboards before xs)) [
          | Blackboards ↦ own
          | k ↦ stays k ((λ j i. refl), (λ j i. refl), refl)
        ])
    serves_call scene many (ToEventFlag call) known =
        serves_kind event_flag_kind event_flag_laws table.event_flags kept.event_flags scene (λ e inside. tt) call known (with_event_flags before)
        (λ new e xs own stays k. elim k as (λ k. AreRead k new e (with_event_flags before xs)) [
          | EventFlags ↦ own
          | k ↦ stays k ((λ j i. refl), (λ j i. refl), refl)
        ])
    serves_call scene many (ToMutex call) known =
        serves_kind mutex_kind mutex_laws table.mutexes mutex_keeps scene (λ m inside. tt) call known (with_mutexes before)
        (λ new e xs own stays k. elim k as (λ k. AreRead k new e (with_mutexes before xs)) [
          | Mutexes ↦ own
          | k ↦ stays k ((λ j i. refl), (λ j i. refl), refl)
        ])

  -- an event without a call that leaves all objects, and wakes with NO_ERROR only processes that
  -- waited for time or for a mutex
  pub exact_uncalled : (new : Roster) (e : Entry) → e.call ≡ None → e.process ≡ Nobody
      → ((p : ℕ) → wakes p e.notices ≡ true → WokenAt None (record_at roster p))
      → Frees roster new → IsExact table history e before new
  exact_uncalled new e uncalled nobody woken frees =
      exact_from e before new
      (λ k. each_stays new e (λ own created. Unit {0}) (λ C X W kind laws configs keeps _.
      all_uncalled kind laws history roster configs keeps new e kept.asked uncalled woken frees) k tt)
      (asked-push history e roster new (λ q w by h. absurd (both_ways false refl (rw nobody at by))) kept.asked
      (asks_freed e.process e.call roster new frees))
