use Rattle.std.proofs.Common.{◌≡◌, ◌++◌, drop, map}
use Rattle.std.specs.List.{All}
use Rattle.apex_faults.specs.Locations.{IsLocationIn}
use Rattle.apex_faults.specs.Terms.{Finding}
use Rattle.apex_faults.proofs.findings.findings_in.Given as goal

-- the faults so far, and those that are left, make the whole
abbrev pub invariant-loop-fault : goal.invariant-loop-fault
invariant-loop-fault l = record {
  faults : map (λ (f : Finding). f.fault) l.named.items ++ drop l.fault-index l.faults ≡ l.faults;
  places : All (λ (f : Finding). IsLocationIn l.text f.location) l.named.items;
}
