use Rattle.std.proofs.Common.{◌++◌, ◌∙◌, [], ◌∷◌, ap, map}
use Rattle.std.proofs.lemmas.List.Elements.{All-push, All-same}
use Rattle.apex_faults.specs.Locations.{IsLocationIn}
use Rattle.apex_remarks.specs.Details.{warning_detail}
use Rattle.apex_remarks.specs.Remarks.{detail, head, warning_head}
use Rattle.apex_remarks.specs.Terms.{Remark}
use Rattle.apex_remarks.proofs.Further.{one_further}
use Rattle.apex_remarks.proofs.remarks.remarks_of_warnings.Goals as goal

pub loop-warning-preserved : goal.loop-warning-preserved
loop-warning-preserved c =
    let is_placed = λ (r : Remark). IsLocationIn c.args.text.now r.location in
    let before = c.loop-warning.remarks.items in
    let remark = c.in_ok-remark_of_warning.field-0 in
    let warnings = c.args.warnings.now in
    record {
      heads = one_further head warning_head before c.push.new.self.items remark (map warning_head warnings) warnings
          c.loop-warning.warning-index _ c.loop-warning.invariant.heads c.loop-warning-test.true
          (c.in_ok-remark_of_warning.ensures.head ∙ ap warning_head c.warning-item.is) c.in_ok-push.ensures.items;
      places = All-same is_placed c.push.new.self.items (before ++ remark ∷ []) c.in_ok-push.ensures.items
          (All-push is_placed before remark c.loop-warning.invariant.places c.in_ok-remark_of_warning.ensures.place);
      details = one_further detail (warning_detail c.args.table.now) before c.push.new.self.items remark (map (warning_detail c.args.table.now) warnings) warnings
          c.loop-warning.warning-index _ c.loop-warning.invariant.details c.loop-warning-test.true
          (c.in_ok-remark_of_warning.ensures.detail ∙ ap (warning_detail c.args.table.now) c.warning-item.is) c.in_ok-push.ensures.items;
    }
