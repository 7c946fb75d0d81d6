use Rattle.std.proofs.Common.{Ok, Err, refl, rules}
use Rattle.std.proofs.KnownBytes.{Keeps-refl}
use Rattle.std.proofs.lemmas.Result.{err_from_is_err_and}
use Rattle.apex_history.specs.Counted.{inner_of, failures_of}
use Rattle.apex_history.specs.Ports.{ports}
use Rattle.apex_check.specs.declared.verdicts.CheckFault.TheVariants.{Write}
use Rattle.apex_check.proofs.Endings.{ends_early, ends_unwritten, ends_written}
use Rattle.apex_check.proofs.Told.{is_told}
use Rattle.apex_check.proofs.checking.check.Goals as goal

pub returns-in_err-followed : goal.returns-in_err-followed
returns-in_err-followed g c =
    let before = ports (g.R.Source.remaining (inner_of c.args.reader.now)) (g.W.Sink.contents (inner_of c.args.writer.now))
    (failures_of c.args.reader.now) (failures_of c.args.writer.now) in
    let reader = c.follow.new.reader in
    let after = ports (g.R.Source.remaining (inner_of reader)) (g.W.Sink.contents (inner_of c.args.writer.now))
    (failures_of reader) (failures_of c.args.writer.now) in
    let fault = c.in_err-followed.field-0.0 in
    let p = err_from_is_err_and c.from_residual.result c.from_residual.ensures.1 in
    let ends = ends_early {before = before} {after = after} fault c.in_err-followed.ensures.err c.in_err-followed.ensures.counted refl (Keeps-refl _) in
    rw (p.1, p.2) (record { ends = ends; legal = is_told {before = before} {after = after} (Err fault) ends })

pub returns-in-Ok : goal.returns-in-Ok
returns-in-Ok g c =
    let before = ports (g.R.Source.remaining (inner_of c.args.reader.now)) (g.W.Sink.contents (inner_of c.args.writer.now))
    (failures_of c.args.reader.now) (failures_of c.args.writer.now) in
    let reader = c.follow.new.reader in
    let writer = c.write_verdict.new.writer in
    let after = ports (g.R.Source.remaining (inner_of reader)) (g.W.Sink.contents (inner_of writer)) (failures_of reader) (failures_of writer) in
    let found = c.in_ok-followed.followed in
    let ends = ends_written found.kernel.table found.kernel.machine found.verdict {before = before} {after = after} c.in_ok-followed.ensures.ok
    (rw c.table.ensures at c.in-Ok.ensures.bytes) (search rules) in
    record { ends = ends; legal = is_told {before = before} {after = after} (Ok found.verdict) ends }

pub returns : goal.returns
returns g c =
    let before = ports (g.R.Source.remaining (inner_of c.args.reader.now)) (g.W.Sink.contents (inner_of c.args.writer.now))
    (failures_of c.args.reader.now) (failures_of c.args.writer.now) in
    let reader = c.follow.new.reader in
    let writer = c.write_verdict.new.writer in
    let after = ports (g.R.Source.remaining (inner_of reader)) (g.W.Sink.contents (inner_of writer)) (failures_of reader) (failures_of writer) in
    let found = c.in_ok-followed.followed in
    let ends = ends_unwritten found.kernel.table found.kernel.machine found.verdict {before = before} {after = after} c.in_ok-followed.ensures.ok
    (rw c.table.ensures at c.in-Err.ensures.beginning) (search rules) in
    record { ends = ends; legal = is_told {before = before} {after = after} (Err Write) ends }
