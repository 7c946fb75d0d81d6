use Rattle.std.proofs.Common.{◌≡◌, ◌<◌, ◌++◌, ◌∙◌, ap, sym, length, length-append, get_or, take, option_to_list, arith}
use Rattle.std.specs.List.{filter_map}
use Rattle.apex_report.specs.Terms.{Entry}
use Rattle.apex_report.specs.Waits.{waking_by}
use Rattle.apex_report.proofs.Bounds.{one_job}
use Rattle.apex_report.proofs.LatestCalls.{found_more}
use Rattle.apex_report.proofs.waits.LatestCalls.find.Goals as goal

pub loop-notice-preserved : goal.loop-notice-preserved
loop-notice-preserved c =
    let at = c.loop-notice.notice-index in
    let notices = c.args.entry.now.notices in
    let inside = ap (λ (e : Entry). e.notices) c.entry.view_is in
    let within : at < length notices = omega (arith, c.loop-notice-test.true, ap length inside) in
    let here : c.notice-item.result ≡ get_or notices at c.notice-item.result = rw (sym inside) c.notice-item.is in
    record {
      found = λ history is.
          c.push.ensures ∙ ap (λ l. l ++ option_to_list c.waking_by.result) (c.loop-notice.invariant.found history is)
          ∙ ap (λ w. filter_map (waking_by history) (take at notices) ++ option_to_list w) (c.waking_by.ensures history is)
          ∙ sym (found_more (waking_by history) notices at c.notice-item.result within here);
      few = omega (
        arith,
        ap length c.push.ensures,
        length-append c.loop-notice.wakings (option_to_list c.waking_by.result),
        one_job c.waking_by.result,
        c.loop-notice.invariant.few,
      );
    }
