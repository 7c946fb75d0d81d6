-- Mutexes as objects of a kind: the facts that their services keep.
use Rattle.std.proofs.Common.{◌≡◌, ℕ, ◌+◌, ◌-◌, ◌≤◌, Bool, true, false, ◌&&◌, cond, not, nat_le, nat_lt, List, [], ◌∷◌, ◌++◌, length, Option, None, Some, lit≤, refl, sym, ◌∙◌, ap, arith, inr}
use Rattle.std.proofs.lemmas.Bool.{both_ways, cond_both, leb-false, ltb-true}
use Rattle.std.proofs.lemmas.Option.{none-some}
use Rattle.apex_laws.specs.Terms.{Call, Caller, Entry, Holding, MutexService, Notice, Reply, ReturnCode, Timeout}
use Rattle.apex_types.specs.declared.calls.Call.TheVariants as call
use Rattle.apex_types.specs.declared.entries.Caller.TheVariants.{Process}
use Rattle.apex_types.specs.declared.calls.MutexService.TheVariants.{Acquire, Release}
use Rattle.apex_types.specs.declared.calls.ObjectCall.TheVariants.{KindService}
use Rattle.apex_machine.specs.declared.records.Queue.TheVariants as queues
use Rattle.apex_types.specs.declared.entries.Reply.TheVariants.{Code, Blocked}
use Rattle.apex_types.specs.declared.entries.ReturnCode.TheVariants.{NoError, NotAvailable, InvalidMode}
use Rattle.apex_types.specs.declared.calls.Timeout.TheVariants.{Poll, Ticks, Infinite}
use Rattle.apex_machine.specs.declared.records.Wait.TheVariants.{Mutex}
use Rattle.apex_types.specs.Calls.{object_of}
use Rattle.apex_machine.specs.services.Calls.{created_mutex}
use Rattle.apex_machine.specs.services.Callers.{IsReady}
use Rattle.apex_machine.specs.processes.Dues.{due_after}
use Rattle.apex_machine.specs.services.Handovers.{hand_over}
use Rattle.apex_machine.specs.History.{creates, is_created}
use Rattle.apex_types.specs.declared.limits.TheConstants.{MOST_DEPTH}
use Rattle.apex_machine.specs.services.MutexServices.{MutexObject, acquire_by, acquire_from, mutex_after, mutex_kind, mutex_service, owner_status, release_by}
use Rattle.apex_machine.specs.processes.Owners.{HasOrderlyOwners, ceiling_of, depth_of, is_deepest, is_poll, may_not_wait, owner, owns, owns_most, record_of}
use Rattle.apex_machine.specs.processes.Held.{holding_of, with_depth, without}
use Rattle.apex_machine.specs.processes.Roster.{Roster, record_at}
use Rattle.apex_machine.specs.services.Rows.{Outcome, refused, accepted}
use Rattle.apex_machine.specs.services.Satisfied.{is_no_error, is_satisfied}
use Rattle.apex_machine.specs.processes.Stamps.{block, own}
use Rattle.apex_machine.specs.table.Table.{MutexConfig, no_mutex}
use Rattle.apex_machine.specs.services.Waiting.{blocked, wait_for}
use Rattle.apex_machine.proofs.Dues.{due_later}
use Rattle.apex_machine.proofs.Handovers.{hands_at_depth, hands_more, reaches_await, reaches_give_up, reaches_own}
use Rattle.apex_machine.proofs.Held.{holds_nothing, is_held, none_held}
use Rattle.apex_machine.proofs.Owners.{Hands, nobody_owns, owner_owns}
use Rattle.apex_machine.proofs.Rows.{by_guard, by_caller}
use Rattle.apex_machine.proofs.Starts.{runnable}
use Rattle.apex_laws.proofs.AskedWaits.{asks_freed}
use Rattle.apex_laws.proofs.HandedOver.{gives_up, own_frees}
use Rattle.apex_laws.proofs.ObjectsServe.{LawsOf, ServesOne, IsRead, then_some}
use Rattle.apex_laws.proofs.Satisfied.{created-push}
use Rattle.apex_laws.proofs.Serving.{Scene, Serves, few, ready_normal, ready_started, serves_freed, serves_same, serves_waiting, arrives_by}
use Rattle.apex_laws.proofs.Truths.{or_false, or_true}

-- a history keeps nothing of a mutex but that it is created: its owner's record has the rest
abbrev pub KeepsMutex : Roster → List Entry → ℕ → MutexConfig → Type 0
KeepsMutex roster history m entry = Unit {0}

pub mutex_stays : (new : Roster) (history : List Entry) (e : Entry) (m : ℕ) (entry : MutexConfig) → creates created_mutex m e ≡ false
    → IsRead mutex_after KeepsMutex new history e m entry (mutex_after history m entry)
mutex_stays new history e m entry none = record {
  is = rw (created-push created_mutex m history e, none, or_false (is_created created_mutex m history)) refl;
  kept = tt;
}

pub status_plain : (roster : Roster) (m : ℕ) (found : Option ℕ) → is_satisfied (owner_status roster m found) ≡ false
status_plain roster m None = refl
status_plain roster m (Some p) = refl

-- what the guards leave of a caller that does not own the mutex: unless its timeout is 0 it owns none, and it may
-- own more
may_wait_then : (owns none poll : Bool) → (not owns && not none && not poll) ≡ false → owns ≡ false → poll ≡ false → none ≡ true
may_wait_then owns true poll e apart waits = refl
may_wait_then true false poll e apart waits = absurd (both_ways true apart refl)
may_wait_then false false true e apart waits = absurd (both_ways true waits refl)
may_wait_then false false false e apart waits = absurd (both_ways true e refl)

may_own_then : (owns most : Bool) → (not owns && most) ≡ false → owns ≡ false → most ≡ false
may_own_then true most e apart = absurd (both_ways true apart refl)
may_own_then false most e apart = e

module _ (history : List Entry) (roster : Roster) (caller : Caller) (m : ℕ) (entry : MutexConfig) (scene : Scene roster caller) where
  abbrev mutex : MutexObject
  mutex = mutex_after history m entry

  abbrev asks_for : MutexService → Call
  asks_for service = call.Mutex (KindService m service)

  abbrev Served : MutexService → Outcome MutexObject → Type 0
  Served service o = ServesOne mutex_after KeepsMutex history roster caller (asks_for service) None m entry o

  -- the mutex's object stays
  served : (service : MutexService) (new : Roster) (reply : Reply) (notices : List Notice)
      → Serves roster caller (asks_for service) None new notices
      → Served service (record { roster = new; object = mutex; reply = reply; notices = notices })
  served service new reply notices serves = record {
    serves = serves;
    read = λ number now who. mutex_stays new history _ m entry refl;
  }

  served_refused : (service : MutexService) (code : ReturnCode) → is_no_error code ≡ false → Served service (refused roster mutex code)
  served_refused service code bad = served service roster (Code code) [] (serves_same roster caller (asks_for service) None)

  guard : (service : MutexService) (holds : Bool) (code : ReturnCode) (rest : Outcome MutexObject) → is_no_error code ≡ false
      → (holds ≡ false → Served service rest) → Served service (cond holds (refused roster mutex code) rest)
  guard service = by_guard roster mutex (Served service) (served_refused service)

  -- a service by its process
  module _ (p : ℕ) (by : caller ≡ Process p) (ready : IsReady roster p) where
    free : (record_at roster p).wait ≡ None
    free = (runnable roster.mode (record_at roster p) ready.eligible).free

    abbrev mine : List Holding
    mine = (record_at roster p).owned

    -- it owns these mutexes from now on, as it may
    served_owning : (service : MutexService) (owned : List Holding) → (HasOrderlyOwners roster → Hands roster p owned [] [])
        → Served service (accepted (own roster p owned) mutex [])
    served_owning service owned hands =
        served service (own roster p owned) (Code NoError) []
        (serves_freed roster caller (asks_for service) None (own roster p owned) []
        (few (reaches_own roster p ready.known owned free hands)) (own_frees roster p owned) (λ q. refl))

    -- who owns the mutex goes on owning it, at another depth
    served_depth : (service : MutexService) (depth : ℕ) → (HasOrderlyOwners roster → (1 ≤ depth) × (depth ≤ MOST_DEPTH))
        → Served service (accepted (own roster p (with_depth m depth mine)) mutex [])
    served_depth service depth range =
        served_owning service (with_depth m depth mine)
        (λ orderly. hands_at_depth roster p ready.known m depth (range orderly) orderly)

    -- ACQUIRE_MUTEX by a process that does not own it: of a free one, and of another one's
    module _ (timeout : Timeout) (apart : owns m (record_at roster p) ≡ false)
        (waits : may_not_wait m timeout (record_at roster p) ≡ false) (room : owns_most roster m (record_at roster p) ≡ false) where
      abbrev fresh : Holding
      fresh = record { mutex = m; ceiling = ceiling_of roster m; depth = 1 }

      served_free : owner roster m ≡ None → Served (Acquire timeout) (accepted (own roster p (mine ++ fresh ∷ [])) mutex [])
      served_free none =
          let few_owned = leb-false roster.rules.most_owned (length mine) (may_own_then (owns m (record_at roster p)) _ room apart) in
          served_owning (Acquire timeout) (mine ++ fresh ∷ [])
          (hands_more roster p ready.known fresh (record { ceiling = refl; depth = (lit≤ tt, lit≤ tt) }) few_owned (nobody_owns roster m none))

      served_blocked : (due_in : Timeout) → is_poll timeout ≡ false → (other : ℕ) → owner roster m ≡ Some other
          → Served (Acquire timeout) (blocked roster mutex p (Mutex m) due_in)
      served_blocked due_in long other is =
          let due = due_after roster due_in in
          let without : mine ≡ [] = holds_nothing mine (may_wait_then (owns m (record_at roster p)) _ (is_poll timeout) waits apart long) in
          served (Acquire timeout) (block roster p (Mutex m) due) Blocked []
          (rw by (serves_waiting roster p (asks_for (Acquire timeout)) None (Mutex m) due refl refl
          (reaches_await roster p ready.known m due (due_later roster due_in) (ready_started roster p ready) (ready_normal roster p ready)
          without other (owner_owns roster m other is))))

    served_waiting : (timeout : Timeout) → owns m (record_at roster p) ≡ false → may_not_wait m timeout (record_at roster p) ≡ false
        → owns_most roster m (record_at roster p) ≡ false → (other : ℕ) → owner roster m ≡ Some other
        → Served (Acquire timeout) (wait_for roster mutex p (Mutex m) timeout)
    served_waiting Poll apart waits room other is = served_refused (Acquire Poll) NotAvailable refl
    served_waiting (Ticks n) apart waits room other is = served_blocked (Ticks n) apart waits room (Ticks n) refl other is
    served_waiting Infinite apart waits room other is = served_blocked Infinite apart waits room Infinite refl other is

    served_from : (timeout : Timeout) → owns m (record_at roster p) ≡ false → may_not_wait m timeout (record_at roster p) ≡ false
        → owns_most roster m (record_at roster p) ≡ false → (found : Option ℕ) → owner roster m ≡ found
        → Served (Acquire timeout) (acquire_from roster mutex m p timeout found)
    served_from timeout apart waits room None is = served_free timeout apart waits room is
    served_from timeout apart waits room (Some other) is = served_waiting timeout apart waits room other is

    served_acquire : (timeout : Timeout) → may_not_wait m timeout (record_at roster p) ≡ false
        → owns_most roster m (record_at roster p) ≡ false → is_deepest m (record_at roster p) ≡ false
        → (found : Option Holding) → holding_of m mine ≡ found → Served (Acquire timeout) (acquire_by roster mutex m p timeout found)
    served_acquire timeout waits room shallow None held =
        served_from timeout (none_held m mine held) waits room (owner roster m) refl
    served_acquire timeout waits room shallow (Some holding) held =
        let less = leb-false MOST_DEPTH holding.depth (sym (ap (λ h. nat_le MOST_DEPTH (depth_of h)) held) ∙ shallow) in
        served_depth (Acquire timeout) (holding.depth + 1) (λ orderly. (omega arith, omega (arith, less)))

    -- RELEASE_MUTEX
    served_release : (found : Option Holding) → holding_of m mine ≡ found → Served Release (release_by roster mutex m p found)
    served_release None held = served_refused Release InvalidMode refl
    served_release (Some holding) held =
        let after = hand_over (own roster p (without m mine)) holding in
        let hands = gives_up roster p holding (without m mine) in
        cond_both {A = Outcome MutexObject} (nat_lt 1 holding.depth) _ _ (Served Release)
        (λ deep. served_depth Release (holding.depth - 1) (λ orderly.
        let most = ((is_held m holding mine held).lawful roster (orderly.owned p).lawful).depth in
        let more = ltb-true 1 holding.depth deep in
        (omega (arith, more), omega (arith, most))))
        (λ _. served Release after.roster (Code NoError) after.notices (record {
          arrives = arrives_by 2 (lit≤ tt) (reaches_give_up roster p ready.known m holding held free scene.starts);
          asks = asks_freed caller (Some (asks_for Release)) roster after.roster hands.frees;
          woken = λ q woken. inr (holding.mutex, hands.woken q woken);
        }))

  pub served_kind_service : (service : MutexService) → Served service (mutex_service roster mutex m caller service)
  served_kind_service (Acquire timeout) =
      let acquire = Acquire timeout in
      guard acquire (not mutex.created) _ _ refl (λ _.
      guard acquire (may_not_wait m timeout (record_of roster caller)) _ _ refl (λ waits.
      guard acquire (owns_most roster m (record_of roster caller)) _ _ refl (λ room.
      guard acquire (nat_lt (ceiling_of roster m) (record_of roster caller).base) _ _ refl (λ _.
      guard acquire (is_deepest m (record_of roster caller)) _ _ refl (λ shallow.
      by_caller roster mutex (Served acquire) (served_refused acquire) caller _
      (λ p by. served_acquire p by (rw by at scene.ready) timeout (rw by at waits) (rw by at room) (rw by at shallow)
      (holding_of m (record_at roster p).owned) refl))))))
  served_kind_service Release =
      guard Release (not mutex.created) _ _ refl (λ _.
      guard Release (not (owns m (record_of roster caller))) _ _ refl (λ _.
      by_caller roster mutex (Served Release) (served_refused Release) caller _
      (λ p by. served_release p by (rw by at scene.ready) (holding_of m (record_at roster p).owned) refl)))

-- mutexes are objects of a kind
abbrev pub mutex_laws : LawsOf mutex_kind
mutex_laws = record {
  to = call.Mutex;
  creation = created_mutex;
  nothing = no_mutex;
  at = λ m. None;
  queue = λ m. Some (queues.Mutex m);
  Keeps = KeepsMutex;
  IsThere = λ roster m. Unit {0};
  created = λ call. refl;
  named = λ call. then_some queues.Mutex (object_of call);
  differs = λ j i apart. (refl, refl);
  itself = λ i own is. absurd (none-some own is);
  unlike = λ j m. refl;
  status = λ roster x i. status_plain roster i (owner roster i);
  stays = λ old new history e m entry keeps quiet still. mutex_stays new history e m entry quiet.create;
  makes = λ roster history e m entry keeps alone made. record {
    is = rw (created-push created_mutex m history e, made, or_true (is_created created_mutex m history)) refl;
    kept = tt;
  };
  service = λ history roster caller m entry service keeps asked scene stands.
      served_kind_service history roster caller m entry scene service;
}
