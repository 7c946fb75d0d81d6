use Rattle.std.proofs.Common.{sym, subst, IfSome}
use Rattle.apex_calls.specs.Catalogue.{IsRow, view}
use Rattle.apex_calls.proofs.Rows.{row_of_word_law, of_viewed}
use Rattle.apex_calls.proofs.catalogue.row_of_word.Goals as goal

pub returns-clause-own : goal.returns-clause-own
returns-clause-own c =
    of_viewed (λ row. view row.now) c.row_in.result IsRow
    (subst (λ o. IfSome o IsRow) (sym c.row_in.ensures) (row_of_word_law c.args.word.now))
