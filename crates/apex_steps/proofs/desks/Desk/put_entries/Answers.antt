use Rattle.std.proofs.Common.{◌∙◌, arith}
use Rattle.std.proofs.lemmas.Result.{err_from_is_err_and}
use Rattle.apex_history.specs.Counted.{inner_of}
use Rattle.apex_steps.specs.Texts.{entry_in}
use Rattle.std.proofs.lemmas.Grind.{elements, common_steps}
use Rattle.apex_steps.proofs.NewEntries.{put_begun, put_more}
use Rattle.apex_steps.proofs.desks.Desk.put_entries.Goals as goal

pub returns-in_err-make_room-clause-err : goal.returns-in_err-make_room-clause-err
returns-in_err-make_room-clause-err g c =
    let p = err_from_is_err_and c.from_residual.result c.from_residual.ensures.1 in
    rw p.1 (put_begun (entry_in c.args.form c.args.kernel.now.table) c.args.kernel.now.machine.history c.args.from c.loop-place.place c.entry-entry.result
    (g.W.Sink.contents (inner_of c.args.writer.now)) (g.W.Sink.contents (inner_of c.loop-place.writer)) (g.W.Sink.contents (inner_of c.make_room.new.writer))
    c.loop-place.self.lines.items c.put_entry.new.self.lines.items c.loop-place.auto.place c.entry-entry.ensures c.loop-place.invariant.text
    (rw c.table.ensures at c.put_entry.ensures) c.in_err-make_room.ensures.err)

pub loop-place-preserved : goal.loop-place-preserved
loop-place-preserved g c = record {
  text = put_more (entry_in c.args.form c.args.kernel.now.table) c.args.kernel.now.machine.history c.args.from c.loop-place.place c.entry-entry.result
      (g.W.Sink.contents (inner_of c.args.writer.now)) (g.W.Sink.contents (inner_of c.loop-place.writer)) (g.W.Sink.contents (inner_of c.make_room.new.writer))
      c.loop-place.self.lines.items c.put_entry.new.self.lines.items c.loop-place.auto.place c.entry-entry.ensures c.loop-place.invariant.text
      (rw c.table.ensures at c.put_entry.ensures) c.make_room.new.lines.items c.in_ok-make_room.ensures.ok;
  room = c.in_ok-make_room.ensures.room;
  failures = c.in_ok-make_room.ensures.counted ∙ c.loop-place.invariant.failures;
}

pub put_entry-requires-clause-printable : goal.put_entry-requires-clause-printable
put_entry-requires-clause-printable g c = grind (arith, elements)

pub returns-clause-ok : goal.returns-clause-ok
returns-clause-ok g c = grind (arith, common_steps)
