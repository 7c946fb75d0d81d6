-- An entry adds at most one to each count, so no count is above the number of entries.
use Rattle.std.proofs.Common.{◌≡◌, ℕ, ◌+◌, ◌<◌, ◌≤◌, zero, suc, Bool, true, false, Option, None, Some, List, [], ◌∷◌, ◌++◌, take, drop, length, map, get_or, option_to_list, if◌then◌else◌, not, ◌&&◌, arith}
use Rattle.std.specs.List.{AllByRecursion}
use Rattle.apex_types.specs.declared.limits.TheConstants.{MOST_SPAN}
use Rattle.apex_report.specs.Cores.{core_figures, is_done_turn, is_idle_turn, is_lost_turn, is_service_turn, is_turn, ticks_in, units, units_if}
use Rattle.apex_report.specs.Jobs.{completes, ended_open, releases, stops}
use Rattle.apex_report.specs.Processes.{is_done_by, is_lost_by, is_turn_of_process, misses, process_figures, times_out}
use Rattle.apex_report.specs.Refusals.{is_reply}
use Rattle.apex_report.specs.Services.{is_call_of, service_figures}
use Rattle.apex_report.specs.Steps.{core_after, jobs_after, one_if, process_after, refusals_with, service_after, ticks_if, AreJobsUpTo, AreUpTo, IsCoreUpTo, IsProcessUpTo, IsServiceUpTo}
use Rattle.apex_report.specs.Terms.{CoreFigures, Entry, JobFigures, ProcessFigures, Refusals, Reply, Service, ServiceFigures}
use Rattle.apex_types.specs.declared.entries.ReturnCode.TheVariants.{NoAction, NotAvailable, InvalidParam, InvalidConfig, InvalidMode}

-- the facts of each element are those of its value
pub all_mapped : {X : Type 0} (P Q : X → Type 0) (f : X → X) → ((x : X) → P x → Q (f x)) → (xs : List X)
    → AllByRecursion P xs → AllByRecursion Q (map f xs)
all_mapped P Q f each [] all = tt
all_mapped P Q f each (x ∷ xs) all = (each x all.0, all_mapped P Q f each xs all.1)

pub all_weaker : {X : Type 0} (P Q : X → Type 0) → ((x : X) → P x → Q x) → (xs : List X)
    → AllByRecursion P xs → AllByRecursion Q xs
all_weaker P Q each [] all = tt
all_weaker P Q each (x ∷ xs) all = (each x all.0, all_weaker P Q each xs all.1)

-- an element that a loop has not come to yet is as it was
pub not_yet : {X : Type 0} (P : X → Type 0) (f : X → X) (xs : List X) (i : ℕ) (x : X) → AllByRecursion P xs
    → i < length xs → x ≡ get_or (map f (take i xs) ++ drop i xs) i x → P x
not_yet P f [] i x all within is = absurd (omega (arith, within))
not_yet P f (y ∷ xs) zero x all within is = rw is all.0
not_yet P f (y ∷ xs) (suc i) x all within is = not_yet P f xs i x all.1 (omega (arith, within)) is

pub one_at_most : (so : Bool) → one_if so ≤ 1
one_at_most true = omega arith
one_at_most false = omega arith

pub one_job : {X : Type 0} (x : Option X) → length (option_to_list x) ≤ 1
one_job None = omega arith
one_job (Some x) = omega arith

refusals_up_to : (n : ℕ) (so : Bool) (reply : Reply) (r : Refusals) → AreUpTo n r → AreUpTo (n + 1) (refusals_with so reply r)
refusals_up_to n so reply r up = record {
  no_action = omega (arith, up.no_action, one_at_most (so && is_reply NoAction reply));
  not_available = omega (arith, up.not_available, one_at_most (so && is_reply NotAvailable reply));
  invalid_param = omega (arith, up.invalid_param, one_at_most (so && is_reply InvalidParam reply));
  invalid_config = omega (arith, up.invalid_config, one_at_most (so && is_reply InvalidConfig reply));
  invalid_mode = omega (arith, up.invalid_mode, one_at_most (so && is_reply InvalidMode reply));
}

pub service_up_to : (n : ℕ) (e : Entry) (f : ServiceFigures) → IsServiceUpTo n f → IsServiceUpTo (n + 1) (service_after e f)
service_up_to n e f up = record { refusals = refusals_up_to n (is_call_of f.service e) e.reply f.refusals up.refusals }

jobs_up_to : (n p : ℕ) (e : Entry) (f : JobFigures) → AreJobsUpTo n f → AreJobsUpTo (n + 1) (jobs_after p f e)
jobs_up_to n p e f up = record {
  releases = omega (arith, up.releases, one_at_most (releases p e));
  completions = omega (arith, up.completions, one_job (ended_open (completes p e) f.open_since e));
  stops = omega (arith, up.stops, one_job (ended_open (stops p e) f.open_since e));
}

some_units : (passes : ℕ → Entry → Bool) (core : ℕ) (e : Entry) → units e.call ≤ MOST_SPAN → units_if passes core e ≤ MOST_SPAN
some_units passes core e few = by_test (passes core e) where
  by_test : (b : Bool) → (if b then units e.call else 0) ≤ MOST_SPAN
  by_test true = few
  by_test false = omega arith

pub process_up_to : (n : ℕ) (e : Entry) → units e.call ≤ MOST_SPAN → (f : ProcessFigures) → IsProcessUpTo n f → IsProcessUpTo (n + 1) (process_after e f)
process_up_to n e few f up = record {
  turns = omega (arith, up.turns, one_at_most (is_turn_of_process f.process e));
  misses = omega (arith, up.misses, one_at_most (misses f.process e));
  timeouts = omega (arith, up.timeouts, one_at_most (times_out f.process e));
  work_done = omega (arith, up.work_done, some_units is_done_by f.process e few);
  work_lost = omega (arith, up.work_lost, some_units is_lost_by f.process e few);
  refusals = refusals_up_to n (is_turn_of_process f.process e) e.reply f.refusals up.refusals;
  jobs = jobs_up_to n f.process e f.jobs up.jobs;
}

some_ticks : (so : Bool) (ticks : ℕ) → ticks ≤ MOST_SPAN → ticks_if so ticks ≤ MOST_SPAN
some_ticks true ticks few = few
some_ticks false ticks few = omega arith

pub core_up_to : (n : ℕ) (e : Entry) → units e.call ≤ MOST_SPAN → ticks_in e.reply ≤ MOST_SPAN → (f : CoreFigures) → IsCoreUpTo n f → IsCoreUpTo (n + 1) (core_after e f)
core_up_to n e few few_ticks f up = record {
  turns = omega (arith, up.turns, one_at_most (is_turn f.core e));
  idle = omega (arith, up.idle, one_at_most (is_idle_turn f.core e));
  calls = omega (arith, up.calls, one_at_most (is_service_turn f.core e));
  lost = omega (arith, up.lost, one_at_most (is_lost_turn f.core e));
  work_done = omega (arith, up.work_done, some_units is_done_turn f.core e few);
  work_lost = omega (arith, up.work_lost, some_units is_lost_turn f.core e few);
  busy_ticks = omega (arith, up.busy_ticks, some_ticks f.is_working (ticks_in e.reply) few_ticks);
  idle_ticks = omega (arith, up.idle_ticks, some_ticks (not f.is_working) (ticks_in e.reply) few_ticks);
}

-- no count is above 0 before any entry
pub processes_zero : (ps : List ℕ) → AllByRecursion (IsProcessUpTo 0) (map (process_figures []) ps)
processes_zero [] = tt
processes_zero (p ∷ ps) = (
  record {
    turns = omega arith;
    misses = omega arith;
    timeouts = omega arith;
    work_done = omega arith;
    work_lost = omega arith;
    refusals = record {
      no_action = omega arith;
      not_available = omega arith;
      invalid_param = omega arith;
      invalid_config = omega arith;
      invalid_mode = omega arith;
    };
    jobs = record { releases = omega arith; completions = omega arith; stops = omega arith };
  },
  processes_zero ps,
)

pub cores_zero : (cs : List ℕ) → AllByRecursion (IsCoreUpTo 0) (map (core_figures []) cs)
cores_zero [] = tt
cores_zero (c ∷ cs) = (
  record {
    turns = omega arith;
    idle = omega arith;
    calls = omega arith;
    lost = omega arith;
    work_done = omega arith;
    work_lost = omega arith;
    busy_ticks = omega arith;
    idle_ticks = omega arith;
  },
  cores_zero cs,
)

pub services_zero : (ss : List Service) → AllByRecursion (IsServiceUpTo 0) (map (service_figures []) ss)
services_zero [] = tt
services_zero (s ∷ ss) = (
  record {
    refusals = record {
      no_action = omega arith;
      not_available = omega arith;
      invalid_param = omega arith;
      invalid_config = omega arith;
      invalid_mode = omega arith;
    };
  },
  services_zero ss,
)
