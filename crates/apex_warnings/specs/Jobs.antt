-- The jobs of a periodic process, and their work. The machine does not count the units of work;
-- here a unit takes a tick.
use Rattle.std.specs.Prelude.{ℕ, ◌+◌, Bool, false, List, [], ◌∷◌, Option, None, Some, nat_le, nat_lt, min, ◌||◌, if◌then◌else◌}
use Rattle.std.specs.List.{list_any}
use Rattle.apex_warnings.specs.Acts.{does}
use Rattle.apex_warnings.specs.declared.acts.Act.TheVariants.{MoveDeadline}
use Rattle.apex_warnings.specs.Terms.{Attributes, Call}
use Rattle.apex_types.specs.declared.calls.Call.TheVariants.{Time, Work}
use Rattle.apex_types.specs.declared.calls.TimeCall.TheVariants.{PeriodicWait}

-- both spans are finite, and the first one is longer
abbrev pub is_above : Option ℕ → Option ℕ → Bool
is_above (Some first) (Some second) = nat_lt second first
is_above _ _ = false

-- the ticks in which a job has to end: the period, or the time capacity if that is shorter
abbrev pub job_limit : ℕ → Option ℕ → ℕ
job_limit period None = period
job_limit period (Some capacity) = min period capacity

-- the units of a job after a call, by those before it: PERIODIC_WAIT ends the job
abbrev pub done_after : ℕ → Call → ℕ
done_after done (Work units) = done + units
done_after done (Time PeriodicWait) = 0
done_after done _ = done

-- a job comes to the limit in these calls, after it has done this many units: the last of them takes
-- the tick at which the job should have ended
abbrev pub work_fills : ℕ → ℕ → List Call → Bool
work_fills limit done [] = false
work_fills limit done (call ∷ calls) =
    nat_le limit (done_after done call) || work_fills limit (done_after done call) calls

-- the work of a job of the script has no fewer units than the job has ticks
abbrev pub work_fills_period : Option ℕ → Option ℕ → List Call → Bool
work_fills_period None capacity calls = false
work_fills_period (Some period) capacity calls = work_fills (job_limit period capacity) 0 calls

-- the time capacity by which the jobs of these calls have to end: none if a call moves the deadline
abbrev pub fixed_capacity : Option ℕ → List Call → Option ℕ
fixed_capacity capacity calls = if list_any (does MoveDeadline) calls then None else capacity

abbrev pub has_much_work : Attributes → List Call → Bool
has_much_work attributes calls =
    work_fills_period attributes.period (fixed_capacity attributes.capacity calls) calls
