use Rattle.std.proofs.Common.{◌≡◌, ◌++◌, take}
use Rattle.apex_lint.specs.Reports.{more_objects_text}
use Rattle.apex_lint.proofs.reports.put_more_objects.Given as goal

-- the objects so far are added
abbrev pub invariant-loop-remark : goal.invariant-loop-remark
invariant-loop-remark l = l.out.items ≡ l.fn.out.items ++ more_objects_text l.file (take l.remark-index l.remarks)
