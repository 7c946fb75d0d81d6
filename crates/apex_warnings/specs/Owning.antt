-- The mutexes that a process owns along its script, if no other process owns one when it asks, and
-- its priority is that of the table.
use Rattle.std.specs.Prelude.{ℕ, ◌+◌, ◌-◌, Bool, true, false, List, [], ◌∷◌, ◌++◌, length, take, fold, Option, None, Some, nat_lt, ◌==◌, ◌&&◌, ◌||◌, not, if◌then◌else◌}
use Rattle.apex_types.specs.declared.limits.TheConstants.{MOST_DEPTH}
use Rattle.apex_warnings.specs.Calls.{script}
use Rattle.apex_warnings.specs.Terms.{Call, Holding, Timeout}
use Rattle.apex_types.specs.declared.calls.BlackboardService.TheVariants as blackboard
use Rattle.apex_types.specs.declared.calls.BufferService.TheVariants as buffer
use Rattle.apex_types.specs.declared.calls.Call.TheVariants.{Caller, Time, Semaphore, Buffer, Blackboard, EventFlag, Mutex}
use Rattle.apex_types.specs.declared.calls.CallerCall.TheVariants.{SuspendSelf}
use Rattle.apex_types.specs.declared.calls.EventFlagService.TheVariants as event_flag
use Rattle.apex_types.specs.declared.calls.MutexService.TheVariants.{Acquire, Release}
use Rattle.apex_types.specs.declared.calls.ObjectCall.TheVariants.{KindService}
use Rattle.apex_types.specs.declared.calls.SemaphoreService.TheVariants as semaphore
use Rattle.apex_types.specs.declared.calls.TimeCall.TheVariants.{TimedWait, PeriodicWait}
use Rattle.apex_machine.specs.processes.Held.{holding_of, holds, holds_none, with_depth, without}
use Rattle.apex_machine.specs.processes.Owners.{is_poll}
use Rattle.apex_machine.specs.table.Profiles.{owned_of}
use Rattle.apex_machine.specs.table.Table.{Table, mutex_config, process_config}

-- the depth of mutex m after a call of its owner, if each ACQUIRE_MUTEX of it goes one deeper
abbrev pub depth_after : ℕ → ℕ → Call → ℕ
depth_after m depth (Mutex (KindService n (Acquire timeout))) =
    if m == n then depth + 1 else depth
depth_after m depth (Mutex (KindService n Release)) = if m == n then depth - 1 else depth
depth_after m depth _ = depth

-- the calls give up mutex m, which is owned at this depth
abbrev pub is_released : ℕ → ℕ → List Call → Bool
is_released m depth [] = false
is_released m depth (call ∷ calls) =
    depth_after m depth call == 0 || is_released m (depth_after m depth call) calls

-- an owner of these mutexes may own another one: it owns fewer than its profile allows, and either
-- owns none or does not wait for it
abbrev pub may_own_more : Table → Timeout → List Holding → Bool
may_own_more table timeout held =
    nat_lt (length held) (owned_of table.profile) && (holds_none held || is_poll timeout)

-- the mutexes after it asks for mutex m, which it does not own and nobody else owns
abbrev pub owned_more : Table → ℕ → Timeout → List Holding → List Holding
owned_more table m timeout held =
    let holding : Holding =
    record { mutex = m; ceiling = (mutex_config table m).ceiling; depth = 1 } in
    if may_own_more table timeout held then held ++ holding ∷ [] else held

-- the same by its holding of mutex m: with one it goes deeper, as far as it may
abbrev pub acquired_by : Table → ℕ → Timeout → List Holding → Option Holding → List Holding
acquired_by table m timeout held None = owned_more table m timeout held
acquired_by table m timeout held (Some holding) =
    if nat_lt holding.depth MOST_DEPTH then with_depth m (holding.depth + 1) held else held

-- the mutexes after ACQUIRE_MUTEX of process p, which a ceiling below its priority refuses
abbrev pub acquired : Table → ℕ → ℕ → Timeout → List Holding → List Holding
acquired table p m timeout held =
    if nat_lt (mutex_config table m).ceiling (process_config table p).attributes.priority then held
    else acquired_by table m timeout held (holding_of m held)

-- the mutexes after RELEASE_MUTEX, by the holding of mutex m
abbrev pub released_by : ℕ → List Holding → Option Holding → List Holding
released_by m held None = held
released_by m held (Some holding) =
    if nat_lt 1 holding.depth then with_depth m (holding.depth - 1) held else without m held

abbrev pub released : ℕ → List Holding → List Holding
released m held = released_by m held (holding_of m held)

-- the mutexes of process p after a call
abbrev pub owned_after : Table → ℕ → List Holding → Call → List Holding
owned_after table p held (Mutex (KindService m (Acquire timeout))) =
    acquired table p m timeout held
owned_after table p held (Mutex (KindService m Release)) = released m held
owned_after table p held _ = held

-- the mutexes of process p before step k of its script
abbrev pub owned_before : Table → ℕ → ℕ → List Holding
owned_before table p k = fold (owned_after table p) [] (take k (script table p))

-- an owner of these mutexes, one at least, is refused the call, because it may wait: a wait with a
-- timeout other than 0, one for another mutex too, or SUSPEND_SELF, TIMED_WAIT or PERIODIC_WAIT
abbrev pub is_refused_to_owner : List Holding → Call → Bool
is_refused_to_owner held (Semaphore (KindService s (semaphore.Wait timeout))) =
    not (is_poll timeout)
is_refused_to_owner held (Buffer (KindService b (buffer.Send message timeout))) =
    not (is_poll timeout)
is_refused_to_owner held (Buffer (KindService b (buffer.Receive timeout))) = not (is_poll timeout)
is_refused_to_owner held (Blackboard (KindService b (blackboard.Read timeout))) =
    not (is_poll timeout)
is_refused_to_owner held (EventFlag (KindService e (event_flag.Wait timeout))) =
    not (is_poll timeout)
is_refused_to_owner held (Mutex (KindService m (Acquire timeout))) =
    not (is_poll timeout) && not (holds m held)
is_refused_to_owner held (Caller (SuspendSelf timeout)) = true
is_refused_to_owner held (Time (TimedWait timeout)) = true
is_refused_to_owner held (Time PeriodicWait) = true
is_refused_to_owner held _ = false

-- process p owns a mutex when it comes to this call at step k, and so it is refused
abbrev pub waits_as_owner : Table → ℕ → ℕ → Call → Bool
waits_as_owner table p k call =
    let held = owned_before table p k in not (holds_none held) && is_refused_to_owner held call
