use Rattle.apex_machine.specs.Machine.{opening, run}
use Rattle.apex_laws.proofs.InOrder.{gives_in_order}
use Rattle.apex_laws.proofs.Sound.{sound_run}
use Rattle.apex_laws.proofs.messages_come_in_order.Goals as goal

pub returns : goal.returns
returns c table lawful events =
    gives_in_order table lawful (run table (opening table) events) (sound_run table lawful events)
