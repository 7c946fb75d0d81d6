-- How an explanation ends.
use Rattle.std.proofs.Common.{refl}
use Rattle.std.proofs.KnownBytes.{Keeps-refl}
use Rattle.std.proofs.lemmas.Result.{err_from_is_err_and}
use Rattle.apex_history.specs.Counted.{inner_of, failures_of}
use Rattle.apex_history.specs.Ports.{ports}
use Rattle.apex_departures.specs.Ends.{refused, unwritten, written}
use Rattle.apex_departures.proofs.Endings.{ends_unread}
use Rattle.apex_departures.proofs.explaining.explain.Goals as goal

pub returns-in-Err : goal.returns-in-Err
returns-in-Err g c =
    let before = ports (g.R.Source.remaining (inner_of c.args.reader.now)) (g.W.Sink.contents (inner_of c.args.writer.now))
    (failures_of c.args.reader.now) (failures_of c.args.writer.now) in
    let reader = c.read_all.new.reader in
    let after = ports (g.R.Source.remaining (inner_of reader)) (g.W.Sink.contents (inner_of c.args.writer.now)) (failures_of reader)
    (failures_of c.args.writer.now) in
    rw c.fault_of_reading.ensures (ends_unread c.args.form c.args.comments before after c.in-Err.fault c.in-Err.ensures.counted refl (Keeps-refl _))

pub returns-in_err-verdict : goal.returns-in_err-verdict
returns-in_err-verdict g c =
    let reader = c.read_all.new.reader in
    let after = ports (g.R.Source.remaining (inner_of reader)) (g.W.Sink.contents (inner_of c.args.writer.now)) (failures_of reader)
    (failures_of c.args.writer.now) in
    let p = err_from_is_err_and c.from_residual.result c.from_residual.ensures.1 in
    rw (p.1, p.2) (refused c.in-Ok.text.items {after = after} c.in-Ok.ensures.bytes (rw c.as_slice.ensures.value at c.in_err-verdict.ensures.err) (Keeps-refl _)
    (c.in-Ok.ensures.counted, refl))

pub returns-in-Ok-write_page : goal.returns-in-Ok-write_page
returns-in-Ok-write_page g c =
    written c.in-Ok.text.items c.put_explained.new.page.items c.in-Ok.ensures.bytes (rw c.as_slice.ensures.value at c.in_ok-verdict.ensures.ok)
    c.in-Ok-write_page.ensures.bytes (c.in-Ok.ensures.counted, c.in-Ok-write_page.ensures.counted)

pub returns : goal.returns
returns g c =
    unwritten c.in-Ok.text.items c.put_explained.new.page.items c.in_ok-verdict.verdict c.in-Ok.ensures.bytes
    (rw c.as_slice.ensures.value at c.in_ok-verdict.ensures.ok) c.in-Err-write_page.ensures.beginning
    (c.in-Ok.ensures.counted, c.in-Err-write_page.ensures.counted)
