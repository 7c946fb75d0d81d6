use Rattle.apex_machine.specs.Machine.{opening, run}
use Rattle.apex_laws.proofs.States.{one_state}
use Rattle.apex_laws.proofs.each_has_one_state.Goals as goal

pub returns : goal.returns
returns c table lawful events p within = one_state (run table (opening table) events).roster p
