-- The services of mutexes, row by row: the first guard that holds answers and changes nothing (this
-- profile).
use Rattle.std.specs.Prelude.{ℕ, ◌+◌, ◌-◌, Bool, true, false, List, [], ◌∷◌, ◌++◌, Option, None, Some, nat_lt, not, if◌then◌else◌}
use Rattle.apex_machine.specs.Terms.{Caller, Entry, Holding, MutexService, Reply, Timeout}
use Rattle.apex_types.specs.declared.calls.MutexService.TheVariants.{Acquire, Release}
use Rattle.apex_types.specs.declared.entries.Reply.TheVariants.{Status}
use Rattle.apex_types.specs.declared.entries.ReturnCode.TheVariants.{InvalidParam, InvalidMode}
use Rattle.apex_machine.specs.declared.records.Wait.TheVariants as wait
use Rattle.apex_machine.specs.services.Calls.{created_mutex}
use Rattle.apex_machine.specs.services.Handovers.{hand_over}
use Rattle.apex_machine.specs.processes.Held.{holding_of, with_depth, without}
use Rattle.apex_machine.specs.History.{is_created}
use Rattle.apex_machine.specs.services.Objects.{ObjectKind}
use Rattle.apex_machine.specs.processes.Owners.{ceiling_of, depth_of, is_deepest, may_not_wait, owner, owns, owns_most, record_of}
use Rattle.apex_machine.specs.processes.Roster.{Roster, record_at}
use Rattle.apex_machine.specs.services.Rows.{Outcome, refused, accepted, accepted_with, guarded, ◌⟶◌, by_process}
use Rattle.apex_machine.specs.processes.Stamps.{own}
use Rattle.apex_machine.specs.table.Table.{MutexConfig}
use Rattle.apex_machine.specs.services.Waiting.{wait_for}

-- a mutex as its services see it, besides its ceiling and the record of its owner
pub record MutexObject : Type 0 where
  pub created : Bool

-- process p, which does not own mutex m, asks for it: if it has no owner, p owns it too, at depth
-- 1, else p waits for it
abbrev pub acquire_from : Roster → MutexObject → ℕ → ℕ → Timeout → Option ℕ → Outcome MutexObject
acquire_from roster mutex m p timeout None =
    let holding : Holding = record { mutex = m; ceiling = ceiling_of roster m; depth = 1 } in
    accepted (own roster p ((record_at roster p).owned ++ holding ∷ [])) mutex []
acquire_from roster mutex m p timeout (Some q) = wait_for roster mutex p (wait.Mutex m) timeout

-- process p asks for mutex m: with this holding of it p goes one deeper; without one it owns a free
-- mutex, or waits for its owner
abbrev pub acquire_by : Roster → MutexObject → ℕ → ℕ → Timeout → Option Holding
    → Outcome MutexObject
acquire_by roster mutex m p timeout None = acquire_from roster mutex m p timeout (owner roster m)
acquire_by roster mutex m p timeout (Some holding) =
    accepted (own roster p (with_depth m (holding.depth + 1) (record_at roster p).owned)) mutex []

-- ACQUIRE_MUTEX
abbrev pub acquire_mutex : Roster → MutexObject → ℕ → Caller → Timeout → Outcome MutexObject
acquire_mutex roster mutex m caller timeout =
    guarded roster mutex
    (not mutex.created ⟶ InvalidParam
    ∷ may_not_wait m timeout (record_of roster caller) ⟶ InvalidMode
    ∷ owns_most roster m (record_of roster caller) ⟶ InvalidMode
    ∷ nat_lt (ceiling_of roster m) (record_of roster caller).base ⟶ InvalidMode
    ∷ is_deepest m (record_of roster caller) ⟶ InvalidMode ∷ [])
    (by_process roster mutex caller (λ p.
    acquire_by roster mutex m p timeout (holding_of m (record_at roster p).owned)))

-- process p releases mutex m, of this holding: it goes one less deep, or gives the mutex up, which
-- then goes to its first waiter; without a holding it is refused
abbrev pub release_by : Roster → MutexObject → ℕ → ℕ → Option Holding → Outcome MutexObject
release_by roster mutex m p None = refused roster mutex InvalidMode
release_by roster mutex m p (Some holding) =
    let owned = (record_at roster p).owned in
    if nat_lt 1 holding.depth
    then accepted (own roster p (with_depth m (holding.depth - 1) owned)) mutex []
    else accepted_with mutex (hand_over (own roster p (without m owned)) holding)

-- RELEASE_MUTEX
abbrev pub release_mutex : Roster → MutexObject → ℕ → Caller → Outcome MutexObject
release_mutex roster mutex m caller =
    guarded roster mutex
    (not mutex.created ⟶ InvalidParam ∷ not (owns m (record_of roster caller)) ⟶ InvalidMode ∷ [])
    (by_process roster mutex caller (λ p.
    release_by roster mutex m p (holding_of m (record_at roster p).owned)))

-- the services that mutexes alone have
abbrev pub mutex_service : Roster → MutexObject → ℕ → Caller → MutexService → Outcome MutexObject
mutex_service roster mutex m caller (Acquire timeout) = acquire_mutex roster mutex m caller timeout
mutex_service roster mutex m caller Release = release_mutex roster mutex m caller

-- the id of the owner of mutex m as users see it, and its depth; 0 and 0 without an owner
abbrev pub owner_status : Roster → ℕ → Option ℕ → Reply
owner_status roster m None = Status 0 0
owner_status roster m (Some p) = Status (p + 1) (depth_of (holding_of m (record_at roster p).owned))

-- the status: the owner, and its depth
abbrev pub mutex_status : Roster → MutexObject → ℕ → Reply
mutex_status roster mutex m = owner_status roster m (owner roster m)

-- mutex m of this entry after the history
abbrev pub mutex_after : List Entry → ℕ → MutexConfig → MutexObject
mutex_after history m entry = record { created = is_created created_mutex m history }

-- mutexes
abbrev pub mutex_kind : ObjectKind MutexConfig MutexObject MutexService
mutex_kind = record {
  absent = record { created = false };
  created = λ mutex. mutex.created;
  made = λ mutex. record { created = true };
  status = mutex_status;
  service = mutex_service;
  after = mutex_after;
}
