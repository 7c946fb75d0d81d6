use Rattle.apex_report.proofs.OpenWork.{working_run}
use Rattle.apex_report.proofs.laws.working_is_open_work.Goals as goal

pub returns : goal.returns
returns c table lawful events core = working_run table lawful core events
