use Rattle.std.proofs.Common.{◌++◌, ◌∙◌, [], ◌∷◌, ap, map, subst, sym}
use Rattle.std.proofs.lemmas.List.Elements.{All-push, All-same}
use Rattle.apex_faults.specs.Locations.{IsLocationIn}
use Rattle.apex_faults.specs.declared.Finding.{Finding}
use Rattle.apex_remarks.specs.Remarks.{fault_head, head}
use Rattle.apex_remarks.specs.Terms.{Remark}
use Rattle.apex_remarks.proofs.Further.{one_further}
use Rattle.apex_remarks.proofs.remarks.remarks_of_faults.Goals as goal

pub loop-finding-preserved : goal.loop-finding-preserved
loop-finding-preserved c =
    let is_placed = λ (r : Remark). IsLocationIn c.args.text.now r.location in
    let of_finding = λ (f : Finding). fault_head f.fault in
    let before = c.loop-finding.remarks.items in
    let remark = c.in_ok-remark_of_fault.field-0 in
    let findings = c.args.findings.now in
    record {
      heads = one_further head of_finding before c.push.new.self.items remark (map of_finding findings) findings
          c.loop-finding.finding-index _ c.loop-finding.invariant.heads c.loop-finding-test.true
          (c.in_ok-remark_of_fault.ensures.head ∙ ap of_finding c.finding-item.is) c.in_ok-push.ensures.items;
      places = All-same is_placed c.push.new.self.items (before ++ remark ∷ []) c.in_ok-push.ensures.items
          (All-push is_placed before remark c.loop-finding.invariant.places
          (subst (IsLocationIn c.args.text.now)
          (sym (c.in_ok-remark_of_fault.ensures.place ∙ ap (λ (f : Finding). f.location) c.finding-item.is))
          (c.requires c.loop-finding.finding-index _ c.loop-finding-test.true)));
    }
