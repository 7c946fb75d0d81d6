use Rattle.std.proofs.Common.{map, rules, tests}
use Rattle.std.proofs.lemmas.Fn.{filter_same}
use Rattle.apex_remarks.specs.Remarks.{is_told}
use Rattle.apex_remarks.proofs.remarks.leave_out.Goals as goal

pub returns : goal.returns
returns c =
    filter_same _ (is_told (map (λ w. w.now) c.args.allowed.now)) _ (λ x b f' k. search (rules, tests)) _ _ c.retain.ensures.filtered
