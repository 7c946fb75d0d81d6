use Rattle.std.proofs.Common.{◌∙◌, ap}
use Rattle.apex_table.specs.Reading.{table_of}
use Rattle.apex_lint.specs.Reports.{report_text, verdict_by}
use Rattle.apex_lint.proofs.reports.report_on.Goals as goal

pub returns : goal.returns
returns c =
    let facts = c.in_ok-judgement.ensures in (
      facts.verdict ∙ ap (verdict_by (table_of c.args.text.now)) facts.heads,
      c.in_ok-judgement.judgement.remarks.items,
      record { heads = facts.heads; places = facts.places; details = facts.details },
      c.in_ok-report.ensures ∙ ap (report_text c.args.form c.args.file.now) c.deref.ensures.value,
    )
