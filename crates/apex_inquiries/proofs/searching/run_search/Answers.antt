-- How a search ends, by what was at fault.
use Rattle.std.proofs.Common.{refl}
use Rattle.std.proofs.KnownBytes.{Keeps-refl}
use Rattle.std.proofs.lemmas.Result.{err_from_is_err_and}
use Rattle.apex_console.specs.Streams.{ports_of}
use Rattle.apex_inquiries.proofs.SearchEndings.{search_answered, search_refused, search_unread, search_unwritten}
use Rattle.apex_inquiries.proofs.searching.run_search.Goals as goal

pub returns-in_err-text : goal.returns-in_err-text
returns-in_err-text g c =
    let p = err_from_is_err_and c.from_residual.result c.from_residual.ensures.1 in
    let after = ports_of g.R.Source.remaining g.W.Sink.contents c.read_all.new.reader c.args.writer.now in
    rw (p.1, p.2) (search_unread {after = after} c.in_err-text.field-0.0 c.in_err-text.ensures.counted (Keeps-refl _) refl)

pub returns-in_err-answer : goal.returns-in_err-answer
returns-in_err-answer g c =
    let p = err_from_is_err_and c.from_residual-in_err-answer.result c.from_residual-in_err-answer.ensures.1 in
    rw (p.1, p.2) (search_refused c.in_ok-text.text.items c.in_ok-text.ensures.bytes c.in_err-answer.field-0.0
    (rw c.as_slice.ensures.value at c.in_err-answer.ensures.err) (Keeps-refl _) (c.in_ok-text.ensures.counted, refl))

pub returns-in-Ok : goal.returns-in-Ok
returns-in-Ok g c =
    rw c.ending.ensures (search_answered c.in_ok-text.text.items c.in_ok-text.ensures.bytes c.in_ok-answer.answer
    (rw c.as_slice.ensures.value at c.in_ok-answer.ensures.ok) c.in-Ok.ensures.ok (c.in_ok-text.ensures.counted, c.in-Ok.ensures.counted))

pub returns : goal.returns
returns g c =
    search_unwritten c.in_ok-text.text.items c.in_ok-text.ensures.bytes c.in_ok-answer.answer
    (rw c.as_slice.ensures.value at c.in_ok-answer.ensures.ok) c.in-Err.ensures.err (c.in_ok-text.ensures.counted, c.in-Err.ensures.counted)
