-- The text is that of the form.
use Rattle.std.proofs.Common.{ℕ, List, ap, subst, sym}
use Rattle.std.specs.Prelude.{OnErr, OnOk}
use Rattle.apex_json.specs.declared.Form.{Form}
use Rattle.apex_console.specs.Streams.{HasWritten, HasWrittenSome}
use Rattle.apex_views.specs.Plans.{report_in}
use Rattle.apex_views.proofs.listings.print_in.Goals as goal

pub returns-in-Text-clause-ok : goal.returns-in-Text-clause-ok
returns-in-Text-clause-ok g c = λ history is.
    subst
    (λ (text : List ℕ). OnOk c.print_report.result (HasWritten g.W.Sink.contents c.args.writer.now c.print_report.new.writer text))
    (sym (ap (λ (form : Form). report_in form c.args.table.now history) c.in-Text.is))
    (c.print_report.ensures.ok history is)

pub returns-in-Text-clause-err : goal.returns-in-Text-clause-err
returns-in-Text-clause-err g c = λ history is.
    subst
    (λ (text : List ℕ). OnErr c.print_report.result (HasWrittenSome g.W.Sink.contents c.args.writer.now c.print_report.new.writer text))
    (sym (ap (λ (form : Form). report_in form c.args.table.now history) c.in-Text.is))
    (c.print_report.ensures.err history is)

pub returns-in-Json-clause-ok : goal.returns-in-Json-clause-ok
returns-in-Json-clause-ok g c = λ history is.
    subst
    (λ (text : List ℕ). OnOk c.print_report_json.result (HasWritten g.W.Sink.contents c.args.writer.now c.print_report_json.new.writer text))
    (sym (ap (λ (form : Form). report_in form c.args.table.now history) c.in-Json.is))
    (c.print_report_json.ensures.ok history is)

pub returns-in-Json-clause-err : goal.returns-in-Json-clause-err
returns-in-Json-clause-err g c = λ history is.
    subst
    (λ (text : List ℕ). OnErr c.print_report_json.result (HasWrittenSome g.W.Sink.contents c.args.writer.now c.print_report_json.new.writer text))
    (sym (ap (λ (form : Form). report_in form c.args.table.now history) c.in-Json.is))
    (c.print_report_json.ensures.err history is)
