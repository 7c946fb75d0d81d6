use Rattle.std.proofs.Common.{rules}
use Rattle.apex_console.proofs.reports.write_report.Goals as goal

pub returns-in-History-clause-ok : goal.returns-in-History-clause-ok
returns-in-History-clause-ok c = search rules
