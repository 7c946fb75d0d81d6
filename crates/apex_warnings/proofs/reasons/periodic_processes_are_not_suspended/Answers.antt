use Rattle.apex_warnings.proofs.Refusals.{resumes, suspends, suspensions}
use Rattle.apex_warnings.proofs.reasons.periodic_processes_are_not_suspended.Goals as goal

pub returns : goal.returns
returns c = record { by_itself = suspensions; by_another = suspends; resumed = resumes }
