use Rattle.std.proofs.Common.{◌≡◌, ◌++◌, drop, map}
use Rattle.std.specs.List.{All}
use Rattle.apex_faults.specs.Locations.{IsLocationIn}
use Rattle.apex_remarks.specs.Details.{warning_detail}
use Rattle.apex_remarks.specs.Remarks.{detail, head, warning_head}
use Rattle.apex_remarks.specs.Terms.{Remark}
use Rattle.apex_remarks.proofs.remarks.remarks_of_warnings.Given as goal

-- the remarks so far, and those on the warnings that are left, make the whole
abbrev pub invariant-loop-warning : goal.invariant-loop-warning
invariant-loop-warning l = record {
  heads : map head l.remarks.items ++ map warning_head (drop l.warning-index l.warnings)
      ≡ map warning_head l.warnings;
  places : All (λ (r : Remark). IsLocationIn l.text r.location) l.remarks.items;
  details : map detail l.remarks.items ++ map (warning_detail l.table) (drop l.warning-index l.warnings)
      ≡ map (warning_detail l.table) l.warnings;
}
