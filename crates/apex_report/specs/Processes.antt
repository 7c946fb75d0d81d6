-- The figures of a process, each read off the history.
use Rattle.std.specs.Prelude.{ℕ, Bool, true, false, List, count_by, sum_by, ◌==◌, ◌&&◌}
use Rattle.std.specs.List.{list_any}
use Rattle.apex_types.specs.declared.entries.Notice.TheVariants.{Woken, Missed}
use Rattle.apex_types.specs.declared.entries.ReturnCode.TheVariants.{TimedOut}
use Rattle.apex_machine.specs.services.Callers.{is_by_process}
use Rattle.apex_report.specs.Cores.{is_done, is_lost, units_if}
use Rattle.apex_report.specs.JobFigures.{job_figures}
use Rattle.apex_report.specs.Refusals.{refusals}
use Rattle.apex_report.specs.Terms.{Entry, Notice, ProcessFigures, ReturnCode}
use Rattle.apex_report.specs.Waits.{queue_in}

-- the notice says that process p missed its deadline
abbrev pub is_miss_of : ℕ → Notice → Bool
is_miss_of p (Missed q kind) = p == q
is_miss_of p _ = false

-- process p misses its deadline at the entry
abbrev pub misses : ℕ → Entry → Bool
misses p e = list_any (is_miss_of p) e.notices

-- the code is TIMED_OUT
abbrev pub is_timed_out : ReturnCode → Bool
is_timed_out TimedOut = true
is_timed_out _ = false

-- the notice ends a wait of process p, or its suspension of itself, with TIMED_OUT
abbrev pub is_timeout_of : ℕ → Notice → Bool
is_timeout_of p (Woken q code) = p == q && is_timed_out code
is_timeout_of p _ = false

-- a wait of process p times out at the entry
abbrev pub times_out : ℕ → Entry → Bool
times_out p e = list_any (is_timeout_of p) e.notices

-- the entry is a turn of process p
abbrev pub is_turn_of_process : ℕ → Entry → Bool
is_turn_of_process p e = is_by_process p e.process

-- a turn of process p that ended work that is done
abbrev pub is_done_by : ℕ → Entry → Bool
is_done_by p e = is_by_process p e.process && is_done e.reply

-- a turn of process p that ended work that is lost
abbrev pub is_lost_by : ℕ → Entry → Bool
is_lost_by p e = is_by_process p e.process && is_lost e.reply

-- the figures of process p; its work done and lost is in units
abbrev pub process_figures : List Entry → ℕ → ProcessFigures
process_figures history p = record {
  process = p;
  turns = count_by (is_turn_of_process p) history;
  misses = count_by (misses p) history;
  timeouts = count_by (times_out p) history;
  work_done = sum_by (units_if is_done_by p) history;
  work_lost = sum_by (units_if is_lost_by p) history;
  refusals = refusals (is_turn_of_process p) history;
  jobs = job_figures p history;
  waits_in = queue_in p history;
}
