use Rattle.apex_machine.specs.Machine.{opening, run}
use Rattle.apex_laws.proofs.Runs.{run-append}
use Rattle.apex_laws.proofs.Sound.{sound_run, forward_after}
use Rattle.apex_laws.proofs.time_goes_forward.Goals as goal

pub returns : goal.returns
returns c table lawful = record {
  forward = λ first rest.
      let here = run table (opening table) first in
      rw (run-append table (opening table) first rest)
      (forward_after table lawful here rest (sound_run table lawful first));
  dues = λ events p. ((sound_run table lawful events).times p).due;
  deadlines = λ events p. ((sound_run table lawful events).times p).deadline;
}
