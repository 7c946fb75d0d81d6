-- The figures of a process's jobs, each read off the history.
use Rattle.std.specs.Prelude.{ℕ, Bool, List, Option, length, count_by, nat_lt}
use Rattle.apex_report.specs.Jobs.{completed, open_job, releases, response, stopped}
use Rattle.apex_report.specs.Terms.{Entry, Job, JobFigures}
use Rattle.apex_report.specs.Unbeaten.{first_unbeaten}

-- the first job has the shorter response
abbrev pub faster : Job → Job → Bool
faster first second = nat_lt (response first) (response second)

-- the first job has the longer response
abbrev pub slower : Job → Job → Bool
slower first second = nat_lt (response second) (response first)

-- the first of the jobs with the shortest response
abbrev pub best_of : List Job → Option Job
best_of jobs = first_unbeaten faster jobs

-- the first of the jobs with the longest response
abbrev pub worst_of : List Job → Option Job
worst_of jobs = first_unbeaten slower jobs

-- the figures of the jobs of process p
abbrev pub job_figures : ℕ → List Entry → JobFigures
job_figures p history = record {
  releases = count_by (releases p) history;
  completions = length (completed p history);
  stops = length (stopped p history);
  open_since = open_job p history;
  best = best_of (completed p history);
  worst = worst_of (completed p history);
}
