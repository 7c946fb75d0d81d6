use Rattle.std.proofs.lemmas.Result.{err_from_is_err_and}
use Rattle.apex_history.specs.Counted.{inner_of}
use Rattle.apex_history.proofs.Passing.{beginning_longer}
use Rattle.apex_steps.specs.Texts.{body_in, last_in, text_of}
use Rattle.apex_steps.proofs.Written.{begun_by}
use Rattle.apex_steps.proofs.desks.Desk.say_of.Goals as goal

pub returns-in_err-put_body-clause-err : goal.returns-in_err-put_body-clause-err
unfolding text_of
returns-in_err-put_body-clause-err g c =
    let kernel = c.args.kernel.now in
    let p = err_from_is_err_and c.from_residual.result c.from_residual.ensures.1 in
    rw p.1 (beginning_longer (g.W.Sink.contents (inner_of c.args.writer.now)) (g.W.Sink.contents (inner_of c.put_body.new.writer))
    (body_in c.args.form c.args.saying kernel.table kernel.machine) (last_in c.args.form c.args.saying kernel.machine) c.in_err-put_body.ensures.err)

pub returns-clause-err : goal.returns-clause-err
unfolding text_of
returns-clause-err g c =
    let kernel = c.args.kernel.now in
    begun_by (g.W.Sink.contents (inner_of c.args.writer.now)) (g.W.Sink.contents (inner_of c.put_body.new.writer))
    (g.W.Sink.contents (inner_of c.finish.new.writer)) (body_in c.args.form c.args.saying kernel.table kernel.machine) c.put_body.new.self.lines.items
    (last_in c.args.form c.args.saying kernel.machine) c.say_last.new.lines.items c.in_ok-put_body.ensures.ok c.say_last.ensures c.finish.result
    c.finish.ensures.err
