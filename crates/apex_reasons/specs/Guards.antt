-- The guards of the services' rows: the return code and the sentence of each, and the first one
-- that holds (this profile).
use Rattle.std.specs.Prelude.{ℕ, Bool, List, [], ◌∷◌, Option, None, Some, codes, if◌then◌else◌}
use Rattle.apex_types.specs.declared.entries.ReturnCode.TheVariants.{NoAction, InvalidParam, InvalidConfig, InvalidMode}
use Rattle.apex_reasons.specs.Terms.{ReturnCode}
use Rattle.apex_reasons.specs.declared.guards.Guard.{Guard}
use Rattle.apex_reasons.specs.declared.guards.Guard.TheVariants.{ModeIsNormal, ModeIsNormalAlready, NoSuchEntry, AlreadyCreated, NotCreated, IdNotCreated, NoSuchCore, PriorityOutOfRange, DormantForPriority, AlreadyStarted, UnfitDelay, NamesCaller, AlreadyDormant, DormantOrPeriodic, AlreadySuspended, NotSuspended, OwnsMutex, NoCaller, CallerIsPeriodic, CallerIsAperiodic, CallerOwnsMutex, OwnerWithTimeout, InfiniteTimedWait, InfiniteCapacity, DeadlinePastPeriod, SemaphoreIsFull, UnfitMessage, OwnerOfAnotherWithTimeout, OwnsMost, BaseAboveCeiling, AtMostDepth, CallerIsNotOwner}

-- the code with which a guard refuses a call
abbrev pub code_of : Guard → ReturnCode
code_of ModeIsNormal = InvalidMode
code_of ModeIsNormalAlready = NoAction
code_of NoSuchEntry = InvalidConfig
code_of AlreadyCreated = NoAction
code_of NotCreated = InvalidParam
code_of IdNotCreated = InvalidConfig
code_of NoSuchCore = InvalidConfig
code_of PriorityOutOfRange = InvalidParam
code_of DormantForPriority = InvalidMode
code_of AlreadyStarted = NoAction
code_of UnfitDelay = InvalidParam
code_of NamesCaller = InvalidParam
code_of AlreadyDormant = NoAction
code_of DormantOrPeriodic = InvalidMode
code_of AlreadySuspended = NoAction
code_of NotSuspended = NoAction
code_of OwnsMutex = InvalidMode
code_of NoCaller = InvalidMode
code_of CallerIsPeriodic = InvalidMode
code_of CallerIsAperiodic = InvalidMode
code_of CallerOwnsMutex = InvalidMode
code_of OwnerWithTimeout = InvalidMode
code_of InfiniteTimedWait = InvalidParam
code_of InfiniteCapacity = NoAction
code_of DeadlinePastPeriod = InvalidMode
code_of SemaphoreIsFull = NoAction
code_of UnfitMessage = InvalidParam
code_of OwnerOfAnotherWithTimeout = InvalidMode
code_of OwnsMost = InvalidMode
code_of BaseAboveCeiling = InvalidMode
code_of AtMostDepth = InvalidMode
code_of CallerIsNotOwner = InvalidMode

-- a guard in words
abbrev pub sentence_of : Guard → List ℕ
sentence_of ModeIsNormal = codes "the mode is NORMAL"
sentence_of ModeIsNormalAlready = codes "the mode is NORMAL already"
sentence_of NoSuchEntry = codes "no entry has the name"
sentence_of AlreadyCreated = codes "the named process or object is created already"
sentence_of NotCreated = codes "the named process or object is not created"
sentence_of IdNotCreated = codes "the named process or object is not created"
sentence_of NoSuchCore = codes "the core is not below the number of cores"
sentence_of PriorityOutOfRange = codes "the priority is not 1 to 239"
sentence_of DormantForPriority = codes "the named process is dormant"
sentence_of AlreadyStarted = codes "the named process is not dormant"
sentence_of UnfitDelay = codes "the delay is infinite, or not below the period of the named process"
sentence_of NamesCaller = codes "the named process is the caller"
sentence_of AlreadyDormant = codes "the named process is dormant"
sentence_of DormantOrPeriodic = codes "the named process is dormant or periodic"
sentence_of AlreadySuspended = codes "the named process is suspended already"
sentence_of NotSuspended = codes "the named process is not suspended"
sentence_of OwnsMutex = codes "the named process owns a mutex"
sentence_of NoCaller = codes "no process calls"
sentence_of CallerIsPeriodic = codes "the caller is periodic"
sentence_of CallerIsAperiodic = codes "the caller is aperiodic"
sentence_of CallerOwnsMutex = codes "the caller owns a mutex"
sentence_of OwnerWithTimeout = codes "the caller owns a mutex and the timeout is not 0"
sentence_of InfiniteTimedWait = codes "the timeout is infinite"
sentence_of InfiniteCapacity = codes "the capacity of the caller is infinite"
sentence_of DeadlinePastPeriod =
    codes "the deadline would be later than the end of the period of the caller"
sentence_of SemaphoreIsFull = codes "no process waits and the value is the maximum"
sentence_of UnfitMessage = codes "the message is empty or longer than the object takes"
sentence_of OwnerOfAnotherWithTimeout =
    codes "the caller owns another mutex, but not this one, and the timeout is not 0"
sentence_of OwnsMost = codes "the caller does not own the mutex, and owns as many as it may"
sentence_of BaseAboveCeiling = codes "the base priority of the caller is above the ceiling"
sentence_of AtMostDepth = codes "the caller owns the mutex at depth 32"
sentence_of CallerIsNotOwner = codes "the caller does not own the mutex"

-- a guard of a row, and whether it holds
pub record Tested : Type 0 where
  pub guard : Guard
  pub holds : Bool

infixl 90 ◌when◌
abbrev pub ◌when◌ : Guard → Bool → Tested
guard when holds = record { guard = guard; holds = holds }

-- the first guard of a row that holds
abbrev pub first_holding : List Tested → Option Guard
first_holding [] = None
first_holding (tested ∷ later) =
    if tested.holds then Some tested.guard else first_holding later
