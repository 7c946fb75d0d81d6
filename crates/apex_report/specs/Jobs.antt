-- The jobs of a process: when one begins, when one ends, and its response (this profile).
--
-- A job begins at a release: the START of a process in NORMAL, the end of its delay, the entry into
-- NORMAL, and each later release of a periodic process. It is *completed* by the process itself, with
-- a PERIODIC_WAIT or a STOP_SELF; the end of a script is a STOP_SELF too. So an aperiodic process has
-- one job from its start to its end. A job that others end is *stopped*: by a STOP of its process, by
-- a HARD deadline that is missed, or by the mode IDLE. It has no response. A process that is started
-- again begins a new job.
use Rattle.std.specs.Prelude.{ℕ, ◌-◌, Bool, true, false, List, [], Option, None, Some, fold, option_map, option_to_list, ◌==◌, ◌&&◌, ◌||◌, if◌then◌else◌}
use Rattle.std.specs.List.{list_any}
use Rattle.apex_types.specs.declared.calls.Call.TheVariants.{Partition, Process as ToProcess, Caller as ToCaller, Time}
use Rattle.apex_types.specs.declared.calls.CallerCall.TheVariants.{StopSelf}
use Rattle.apex_types.specs.declared.calls.ObjectCall.TheVariants.{KindService}
use Rattle.apex_types.specs.declared.calls.PartitionCall.TheVariants.{SetPartitionMode}
use Rattle.apex_types.specs.declared.calls.ProcessService.TheVariants.{Stop}
use Rattle.apex_types.specs.declared.calls.RequestedMode.TheVariants as requested
use Rattle.apex_types.specs.declared.calls.TimeCall.TheVariants.{PeriodicWait}
use Rattle.apex_types.specs.declared.entries.Notice.TheVariants.{Released, Missed}
use Rattle.apex_types.specs.declared.entries.Reply.TheVariants.{Blocked, Gone}
use Rattle.apex_types.specs.declared.modes.DeadlineType.TheVariants.{Hard}
use Rattle.apex_machine.specs.services.Callers.{is_by_process}
use Rattle.apex_machine.specs.services.Satisfied.{is_accepted}
use Rattle.apex_report.specs.Along.{along}
use Rattle.apex_report.specs.Terms.{Call, Entry, Job, Notice, Reply}

-- the notice releases process p
abbrev pub is_release_of : ℕ → Notice → Bool
is_release_of p (Released q) = p == q
is_release_of p _ = false

-- the entry releases process p
abbrev pub releases : ℕ → Entry → Bool
releases p e = list_any (is_release_of p) e.notices

-- the call ends the job of its caller: a PERIODIC_WAIT that is answered BLOCKED, or a STOP_SELF
abbrev pub ends_own_job : Option Call → Reply → Bool
ends_own_job (Some (Time PeriodicWait)) Blocked = true
ends_own_job (Some (ToCaller StopSelf)) Gone = true
ends_own_job _ _ = false

-- process p completes its job with the entry
abbrev pub completes : ℕ → Entry → Bool
completes p e = is_by_process p e.process && ends_own_job e.call e.reply

-- the call stops process p: a STOP of it that is accepted, or a SET_PARTITION_MODE IDLE
abbrev pub is_stop_of : ℕ → Option Call → Reply → Bool
is_stop_of p (Some (ToProcess (KindService q Stop))) reply = p == q && is_accepted reply
is_stop_of p (Some (Partition (SetPartitionMode requested.Idle))) reply = true
is_stop_of p _ _ = false

-- the notice says that process p missed a HARD deadline
abbrev pub is_hard_miss_of : ℕ → Notice → Bool
is_hard_miss_of p (Missed q Hard) = p == q
is_hard_miss_of p _ = false

-- process p misses a HARD deadline at the entry, and is stopped
abbrev pub misses_hard : ℕ → Entry → Bool
misses_hard p e = list_any (is_hard_miss_of p) e.notices

-- others stop process p with the entry
abbrev pub stops : ℕ → Entry → Bool
stops p e = is_stop_of p e.call e.reply || misses_hard p e

-- the release of the job that is open after an entry, by the one before it: a release opens a job at
-- its time, and the end of a job leaves none
abbrev pub open_after : ℕ → Option ℕ → Entry → Option ℕ
open_after p before e =
    if releases p e then Some e.now
    else if completes p e || stops p e then None
    else before

-- the time of the release of process p's open job, if it has one
abbrev pub open_job : ℕ → List Entry → Option ℕ
open_job p history = fold (open_after p) None history

-- the job of this release that the entry ends
abbrev pub job_ended : Entry → ℕ → Job
job_ended e released = record { released = released; ended = e.now; number = e.number }

-- the job that the entry ends if it is an end: the one that is open before it
abbrev pub ended_open : Bool → Option ℕ → Entry → Option Job
ended_open is_end before e = if is_end then option_map (job_ended e) before else None

-- the jobs that one entry more ends: one at the most
abbrev pub ended_by : (ℕ → Entry → Bool) → ℕ → List Entry → Entry → List Job
ended_by ends p history e = option_to_list (ended_open (ends p e) (open_job p history) e)

-- the jobs that process p completed, in order
abbrev pub completed : ℕ → List Entry → List Job
completed p history = along (ended_by completes p) [] history

-- the jobs of process p that others stopped, in order
abbrev pub stopped : ℕ → List Entry → List Job
stopped p history = along (ended_by stops p) [] history

-- the response of a job, in ticks: from its release to its end
abbrev pub response : Job → ℕ
response job = job.ended - job.released
