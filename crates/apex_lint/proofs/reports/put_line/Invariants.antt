use Rattle.std.proofs.Common.{◌≡◌, ◌++◌, map, take}
use Rattle.apex_lint.specs.Reports.{shown_byte}
use Rattle.apex_lint.proofs.reports.put_line.Given as goal

-- the bytes so far are added
abbrev pub invariant-loop-byte : goal.invariant-loop-byte
invariant-loop-byte l = l.out.items ≡ l.fn.out.items ++ map shown_byte (take l.byte-index l.text)
