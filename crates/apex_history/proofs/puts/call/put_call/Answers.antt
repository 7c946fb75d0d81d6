-- The words are those of the parts of the call.
use Rattle.apex_calls.specs.Catalogue.{view}
use Rattle.apex_history.proofs.CallWords.{words_known, words_put}
use Rattle.apex_history.proofs.puts.call.put_call.Goals as goal

pub put_words-requires-clause-known : goal.put_words-requires-clause-known
put_words-requires-clause-known c =
    words_known c.args.table.now c.args.call.now c.parts_of-service.result (view c.row_of-row.result.now) c.parts_of-service.ensures.parts c.row_of-row.ensures.row c.requires.known

pub returns-clause-text : goal.returns-clause-text
returns-clause-text c =
    words_put c.args.table.now c.args.call.now c.parts_of-service.result (view c.row_of-row.result.now) c.parts_of-service.ensures.parts c.row_of-row.ensures.row
    _ _ _ c.put.ensures.text c.put_words.ensures.text
