use Rattle.std.proofs.Common.{◌≡◌, ◌++◌, drop, map}
use Rattle.std.specs.List.{All}
use Rattle.apex_faults.specs.Locations.{IsLocationIn}
use Rattle.apex_faults.specs.declared.Finding.{Finding}
use Rattle.apex_remarks.specs.Remarks.{fault_head, head}
use Rattle.apex_remarks.specs.Terms.{Remark}
use Rattle.apex_remarks.proofs.remarks.remarks_of_faults.Given as goal

-- the remarks so far, and those on the faults that are left, make the whole
abbrev pub invariant-loop-finding : goal.invariant-loop-finding
invariant-loop-finding l = record {
  heads : map head l.remarks.items ++ map (λ (f : Finding). fault_head f.fault) (drop l.finding-index l.findings)
      ≡ map (λ (f : Finding). fault_head f.fault) l.findings;
  places : All (λ (r : Remark). IsLocationIn l.text r.location) l.remarks.items;
}
