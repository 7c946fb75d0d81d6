-- The system is that of the table, and the process is the one that is asked for.
use Rattle.std.proofs.Common.{rules, ◌≡◌, ◌∙◌, ap, subst, sym, None, Ok, Some}
use Rattle.std.proofs.lemmas.Result.{err_from_is_err_and}
use Rattle.apex_answers.specs.Worst.{IsWorstAnswer}
use Rattle.apex_questions.specs.Facts.{all_facts}
use Rattle.apex_search.specs.Steps.{Searched}
use Rattle.apex_inquiries.specs.Searches.{system_about}
use Rattle.apex_inquiries.proofs.SearchLemmas.{missing_process, same_system, text_fault}
use Rattle.apex_inquiries.proofs.searching.response_answer.Goals as goal

pub returns-in_err-table-clause-err : goal.returns-in_err-table-clause-err
returns-in_err-table-clause-err g c =
    let p = err_from_is_err_and c.from_residual.result c.from_residual.ensures.1 in
    rw (p.1, p.2) (text_fault c.args.text.now c.in_err-table.field-0.0 c.in_err-table.ensures.err)

pub returns-in_err-process-clause-err : goal.returns-in_err-process-clause-err
returns-in_err-process-clause-err g c =
    let p = err_from_is_err_and c.from_residual-in_err-process.result c.from_residual-in_err-process.ensures.1 in
    rw (p.1, p.2) (missing_process (Some c.args.name) c.args.text.now c.in_ok-table.table c.in_err-process.field-0.0
    c.in_ok-table.ensures.table c.in_err-process.ensures.err)

pub worst_of-requires : goal.worst_of-requires
worst_of-requires g c = (search rules, c.in_ok-table.ensures.table ∙ ap Ok (sym c.in_ok-system.ensures.table))

pub returns-clause-ok : goal.returns-clause-ok
returns-clause-ok g c =
    let same : c.in_ok-system.system ≡ system_about c.in_ok-table.table c.args.search.now.pace all_facts None None =
    same_system c.args.search.now.pace all_facts None c.in_ok-table.table None c.in_ok-system.system
    c.in_ok-system.ensures.table c.in_ok-system.ensures.pace (rw c.all.ensures at c.in_ok-system.ensures.question) in
    record {
      table = c.in_ok-table.table;
      of = c.in_ok-table.ensures.table;
      place = c.in_ok-process.process;
      asked = c.in_ok-process.ensures.ok;
      answers = subst (λ (s : Searched). IsWorstAnswer s c.in_ok-process.process c.args.search.now.room c.in_ok-answer.answer) same
          c.in_ok-answer.ensures;
    }
