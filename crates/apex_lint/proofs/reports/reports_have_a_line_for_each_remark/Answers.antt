use Rattle.apex_lint.proofs.Lines.{for_each}
use Rattle.apex_lint.proofs.reports.reports_have_a_line_for_each_remark.Goals as goal

pub returns : goal.returns
returns c = for_each
