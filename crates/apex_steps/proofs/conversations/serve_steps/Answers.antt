use Rattle.std.proofs.Common.{refl}
use Rattle.std.proofs.KnownBytes.{Keeps-refl}
use Rattle.std.proofs.lemmas.Result.{err_from_is_err_and}
use Rattle.std.specs.Io.KnownBytes.{prepend_known}
use Rattle.apex_history.specs.Counted.{inner_of, failures_of}
use Rattle.apex_history.specs.Ports.{ports}
use Rattle.apex_check.proofs.Endings.{nothing_ahead}
use Rattle.apex_steps.specs.Endings.{no_memory}
use Rattle.apex_steps.proofs.Served.{ends_conversed, ends_early}
use Rattle.apex_steps.proofs.conversations.serve_steps.Goals as goal

pub returns-in_err-table : goal.returns-in_err-table
returns-in_err-table g c =
    let held = g.W.Sink.contents (inner_of c.args.writer.now) in
    let writes = failures_of c.args.writer.now in
    let known = g.R.Source.remaining (inner_of c.args.reader.now) in
    let reader = c.leading_table.new.reader in
    let before = ports known held (failures_of c.args.reader.now) writes in
    let after = ports (g.R.Source.remaining (inner_of reader)) held (failures_of reader) writes in
    let none = nothing_ahead c.new-pending.result known c.new-pending.ensures in
    let p = err_from_is_err_and c.from_residual.result c.from_residual.ensures.1 in
    rw (p.1, p.2) (ends_early {before = before} {after = after} c.in_err-table.field-0.0 (rw none at c.in_err-table.ensures.err)
    c.in_err-table.ensures.counted refl (Keeps-refl held))

pub returns-in_err-session : goal.returns-in_err-session
returns-in_err-session g c =
    let held = g.W.Sink.contents (inner_of c.args.writer.now) in
    let reader = c.leading_table.new.reader in
    let after = ports (g.R.Source.remaining (inner_of reader)) held (failures_of reader) (failures_of c.args.writer.now) in
    let p = err_from_is_err_and c.from_residual-in_err-session.result c.from_residual-in_err-session.ensures.1 in
    rw (p.1, p.2) (no_memory {after = after} (Keeps-refl held) (c.in_ok-table.ensures.counted, refl))

pub returns : goal.returns
returns g c =
    let known = g.R.Source.remaining (inner_of c.args.reader.now) in
    let reader = c.leading_table.new.reader in
    let mid = prepend_known c.leading_table.new.pending (g.R.Source.remaining (inner_of reader)) in
    let (front, lines, reads, taken) = c.in_ok-table.ensures.ok in
    let none = nothing_ahead c.new-pending.result known c.new-pending.ensures in
    let after = ports (g.R.Source.remaining (inner_of c.converse.new.reader)) (g.W.Sink.contents (inner_of c.converse.new.writer))
    (failures_of c.converse.new.reader) (failures_of c.converse.new.writer) in
    let before = ports known (g.W.Sink.contents (inner_of c.args.writer.now)) (failures_of c.args.reader.now) (failures_of c.args.writer.now) in
    let end = prepend_known c.converse.new.pending (g.R.Source.remaining (inner_of c.converse.new.reader)) in
    ends_conversed front c.in_ok-table.table known mid lines reads (rw none at taken) before after end c.converse.result refl
    (rw (c.in_ok-session.ensures, c.in_ok-table.ensures.counted) at c.converse.ensures)
