use Rattle.apex_report.proofs.json_printing.print_report_json.Goals as goal

pub returns-clause-ok : goal.returns-clause-ok
returns-clause-ok g c = λ history is. rw is at c.print_json.ensures.ok

pub returns-clause-err : goal.returns-clause-err
returns-clause-err g c = λ history is. rw is at c.print_json.ensures.err
