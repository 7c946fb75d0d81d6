use Rattle.std.proofs.Common.{rules}
use Rattle.apex_forms.proofs.forms.recent.Goals as goal

pub returns-then-period-ticks-clause-value : goal.returns-then-period-ticks-clause-value
returns-then-period-ticks-clause-value c = search rules
