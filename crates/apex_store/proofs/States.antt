-- A process is running exactly if it is the chosen one of its core.
use Rattle.std.proofs.Common.{ℕ}
use Rattle.apex_machine.specs.processes.Roster.{Roster, record_at}
use Rattle.apex_machine.specs.processes.Running.{chosen, is_eligible}
use Rattle.apex_machine.proofs.States.{chosen_parts, found_is, is_found, running_runs, runs_running}
use Rattle.apex_store.specs.Laws.{RunningIsChosen}

pub running_chosen : (roster : Roster) (p : ℕ) → RunningIsChosen roster p
running_chosen roster p = record {
  found = λ e. is_found p _ (running_runs (record_at roster p).started (is_eligible roster.mode (record_at roster p)) _ e);
  running = λ core e.
      let parts = chosen_parts roster core p e in
      runs_running _ _ _ parts.0 parts.1 (found_is p (chosen roster (record_at roster p).core) (rw parts.2 e));
  bound = λ core e. (chosen_parts roster core p e).2;
}
