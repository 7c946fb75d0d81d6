-- The ownerships of a mutex: when one begins, when one ends, and its length (this profile).
--
-- A process owns a mutex from the call that acquires it, or the notice that wakes it with the mutex,
-- to the release at depth 1, or to its stop. An ownership that begins and ends at the same entry is
-- none.
use Rattle.std.specs.Prelude.{ℕ, ◌+◌, ◌-◌, Bool, true, false, List, [], ◌∷◌, ◌++◌, Option, None, Some, fold, nat_le, nat_lt, option_map, option_to_list, ◌&&◌, ◌||◌, not, if◌then◌else◌}
use Rattle.std.specs.Option.{option_or}
use Rattle.apex_types.specs.declared.calls.Call.TheVariants.{Mutex}
use Rattle.apex_types.specs.declared.calls.MutexService.TheVariants.{Acquire, Release}
use Rattle.apex_types.specs.declared.calls.ObjectCall.TheVariants.{KindService}
use Rattle.apex_types.specs.declared.entries.Caller.TheVariants.{Process}
use Rattle.apex_types.specs.declared.entries.Reply.TheVariants.{Gone}
use Rattle.apex_machine.specs.services.Callers.{is_by_process}
use Rattle.apex_machine.specs.services.Calls.{names}
use Rattle.apex_machine.specs.services.Satisfied.{is_accepted, is_no_error}
use Rattle.apex_report.specs.Along.{along}
use Rattle.apex_report.specs.Jobs.{stops}
use Rattle.apex_report.specs.Terms.{Call, Caller, Entry, Owner, Ownership, Queue, Reply, Waking}
use Rattle.apex_report.specs.Unbeaten.{first_unbeaten}
use Rattle.apex_report.specs.Waits.{wakings}

-- the call is ACQUIRE_MUTEX
abbrev pub is_acquire : Call → Bool
is_acquire (Mutex (KindService m (Acquire timeout))) = true
is_acquire _ = false

-- the call is RELEASE_MUTEX
abbrev pub is_release : Call → Bool
is_release (Mutex (KindService m Release)) = true
is_release _ = false

-- there is a call, and it acquires the mutex of this queue
abbrev pub acquires : Queue → Option Call → Bool
acquires queue None = false
acquires queue (Some call) = names queue call && is_acquire call

-- there is a call, and it releases the mutex of this queue
abbrev pub releases_mutex : Queue → Option Call → Bool
releases_mutex queue None = false
releases_mutex queue (Some call) = names queue call && is_release call

-- the caller is gone
abbrev pub is_gone : Reply → Bool
is_gone Gone = true
is_gone _ = false

-- process p is stopped with the entry, by itself or by others
abbrev pub is_stopped : ℕ → Entry → Bool
is_stopped p e = is_by_process p e.process && is_gone e.reply || stops p e

-- the process that calls, if one does
abbrev pub calling : Caller → Option ℕ
calling (Process p) = Some p
calling _ = None

-- the entry's own call acquires the mutex
abbrev pub is_acquired : Queue → Entry → Bool
is_acquired queue e = acquires queue e.call && is_accepted e.reply

-- the entry's own call releases the mutex
abbrev pub is_released : Queue → Entry → Bool
is_released queue e = releases_mutex queue e.call && is_accepted e.reply

-- the process is woken with the mutex, and is not stopped with the entry
abbrev pub inherits : Queue → Entry → Waking → Bool
inherits queue e waking =
    is_no_error waking.code && acquires queue waking.call && not (is_stopped waking.process e)

-- the process that acquires the mutex by its own call
abbrev pub taker : Queue → Entry → Option ℕ
taker queue e = if is_acquired queue e then calling e.process else None

-- the process that is woken with the mutex, by those that were woken before it
abbrev pub heir_after : Queue → Entry → Option ℕ → Waking → Option ℕ
heir_after queue e before waking = if inherits queue e waking then Some waking.process else before

-- the last process that is woken with the mutex
abbrev pub heir : Queue → Entry → List Waking → Option ℕ
heir queue e woken = fold (heir_after queue e) None woken

-- the process that gets a free mutex with the entry, which wakes these
abbrev pub next_owner : Queue → Entry → List Waking → Option ℕ
next_owner queue e woken = option_or (taker queue e) (heir queue e woken)

-- the process owns the mutex from the entry on
abbrev pub owner_from : Entry → ℕ → Owner
owner_from e p = record { process = p; since = e.now; depth = 1 }

-- the owner gives the mutex up with the entry
abbrev pub gives_up : Queue → Entry → Owner → Bool
gives_up queue e owner =
    is_released queue e && nat_le owner.depth 1 || is_stopped owner.process e

-- the depth of an ownership that goes on, after an entry
abbrev pub depth_after : Queue → Entry → ℕ → ℕ
depth_after queue e depth =
    if is_acquired queue e then depth + 1 else if is_released queue e then depth - 1 else depth

-- the owner after an entry, which wakes these, by the one before
abbrev pub owner_after : Queue → Entry → List Waking → Option Owner → Option Owner
owner_after queue e woken None = option_map (owner_from e) (next_owner queue e woken)
owner_after queue e woken (Some owner) =
    if gives_up queue e owner then option_map (owner_from e) (next_owner queue e woken)
    else Some (record owner { depth = depth_after queue e owner.depth })

-- the owner after these entries, by the one after a history
abbrev pub owner_along : Queue → List Entry → List Entry → Option Owner → Option Owner
owner_along queue before [] owner = owner
owner_along queue before (e ∷ later) owner =
    owner_along queue (before ++ e ∷ []) later (owner_after queue e (wakings before e) owner)

-- the owner of the mutex of this queue
abbrev pub owner_in : Queue → List Entry → Option Owner
owner_in queue history = owner_along queue [] history None

-- the ownership that the entry ends
abbrev pub ownership_ended : Entry → Owner → Ownership
ownership_ended e owner = record {
  process = owner.process;
  since = owner.since;
  ended = e.now;
  number = e.number;
}

-- the ownership that ends with the entry, if the owner gives the mutex up
abbrev pub ended_with : Queue → Entry → Option Owner → Option Ownership
ended_with queue e None = None
ended_with queue e (Some owner) =
    if gives_up queue e owner then Some (ownership_ended e owner) else None

-- the ownerships that one entry more ends: one at the most
abbrev pub ownership_by : Queue → List Entry → Entry → List Ownership
ownership_by queue before e = option_to_list (ended_with queue e (owner_in queue before))

-- the length of an ownership, in ticks
abbrev pub held_ticks : Ownership → ℕ
held_ticks ownership = ownership.ended - ownership.since

-- the first ownership is the longer one
abbrev pub is_longer : Ownership → Ownership → Bool
is_longer first second = nat_lt (held_ticks second) (held_ticks first)

-- the first of the longest ownerships of the mutex that have ended
abbrev pub longest_ownership : Queue → List Entry → Option Ownership
longest_ownership queue history =
    first_unbeaten is_longer (along (ownership_by queue) [] history)
