-- The system is the one that is asked for, or the text or the process is at fault.
use Rattle.std.proofs.lemmas.Result.{err_from_is_err_and}
use Rattle.apex_inquiries.proofs.SearchLemmas.{is_system, missing_process, text_fault}
use Rattle.apex_inquiries.proofs.searching.system_for.Goals as goal

pub returns-in_err-table-clause-err : goal.returns-in_err-table-clause-err
returns-in_err-table-clause-err c =
    let p = err_from_is_err_and c.from_residual.result c.from_residual.ensures.1 in
    rw (p.1, p.2) (text_fault c.args.text.now c.in_err-table.field-0.0 c.in_err-table.ensures.err)

pub returns-in_err-process-clause-err : goal.returns-in_err-process-clause-err
returns-in_err-process-clause-err c =
    let p = err_from_is_err_and c.from_residual-in_err-process.result c.from_residual-in_err-process.ensures.1 in
    rw (p.1, p.2) (missing_process c.args.asked c.args.text.now c.in_ok-table.table c.in_err-process.field-0.0
    c.in_ok-table.ensures.table c.in_err-process.ensures.err)

pub returns-clause-ok : goal.returns-clause-ok
returns-clause-ok c =
    is_system c.args.pace c.args.facts c.args.asked c.args.service c.args.text.now c.in_ok-table.table c.in_ok-process.process
    c.in_ok-system.system c.in_ok-table.ensures.table c.in_ok-process.ensures.ok c.in_ok-system.ensures.table
    c.in_ok-system.ensures.pace c.in_ok-system.ensures.question
