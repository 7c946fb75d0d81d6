use Rattle.std.proofs.lemmas.Grind.{common_steps}
use Rattle.std.proofs.Common.{rules, arith, ◌≡◌, ◌∙◌, ap}
use Rattle.apex_report.specs.Report.{report}
use Rattle.apex_report.proofs.reports.report_of.Goals as goal

pub loop-entry-preserved : goal.loop-entry-preserved
loop-entry-preserved c = record {
  split = grind (arith, common_steps);
  made = c.note.ensures.report c.args.table.now c.loop-entry.yielded c.loop-entry.invariant.made;
}

pub returns : goal.returns
returns c =
    let whole : c.loop-entry.yielded ≡ c.args.entries = search rules in
    c.loop-entry.invariant.made ∙ ap (report c.args.table.now) whole
