use Rattle.apex_warnings.proofs.Refusals.{sends, displays}
use Rattle.apex_warnings.proofs.reasons.unfit_messages_are_refused.Goals as goal

pub returns : goal.returns
returns c = record { sends = sends; displays = displays }
