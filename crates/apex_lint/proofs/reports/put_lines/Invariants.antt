use Rattle.std.proofs.Common.{◌≡◌, ◌++◌, take}
use Rattle.apex_lint.specs.Reports.{lines_text}
use Rattle.apex_lint.proofs.reports.put_lines.Given as goal

-- the lines so far are added
abbrev pub invariant-loop-remark : goal.invariant-loop-remark
invariant-loop-remark l = l.out.items ≡ l.fn.out.items ++ lines_text l.file (take l.remark-index l.remarks)
