use Rattle.std.proofs.Common.{◌++◌, [], ◌∷◌}
use Rattle.std.proofs.lemmas.List.Elements.{All-push, All-same}
use Rattle.apex_faults.specs.Locations.{IsLocationIn}
use Rattle.apex_faults.specs.Terms.{Finding}
use Rattle.apex_faults.proofs.Further.{one_further}
use Rattle.apex_faults.proofs.findings.findings_in.Goals as goal

pub loop-fault-preserved : goal.loop-fault-preserved
loop-fault-preserved c =
    let is_placed = λ (f : Finding). IsLocationIn c.args.text.now f.location in
    let before = c.loop-fault.named.items in
    let found = c.in_ok-finding_in.field-0 in
    record {
      faults = one_further before c.push.new.self.items found c.args.faults.now c.loop-fault.fault-index _ c.loop-fault.invariant.faults
          c.loop-fault-test.true c.in_ok-finding_in.ensures.fault c.in_ok-push.ensures.items;
      places = All-same is_placed c.push.new.self.items (before ++ found ∷ []) c.in_ok-push.ensures.items
          (All-push is_placed before found c.loop-fault.invariant.places c.in_ok-finding_in.ensures.place);
    }
