-- What went out is a prefix of the text.
use Rattle.std.proofs.Common.{arith}
use Rattle.std.proofs.lemmas.Result.{on_err_weaker}
use Rattle.apex_history.proofs.Outcomes.{OnErr-always}
use Rattle.apex_history.proofs.Passing.{beginning_after, beginning_longer, passes_then, passes_with}
use Rattle.apex_schedules.specs.Printing.{schedule_text}
use Rattle.apex_schedules.proofs.printing.print_schedule.Goals as goal

pub returns-in_err-make_room-clause-err : goal.returns-in_err-make_room-clause-err
returns-in_err-make_room-clause-err g c =
    OnErr-always c.from_residual.result
    (beginning_after _ _ _ _ _ c.loop-rest.invariant.text (beginning_longer _ _ _ (schedule_text c.loop-rest.rest.now) c.in_err-make_room.ensures.err))

pub loop-rest-preserved : goal.loop-rest-preserved
loop-rest-preserved g c = record {
  text = rw c.put_first-rest.ensures.text (passes_then _ _ _ _ _ _ c.loop-rest.invariant.text (passes_with _ _ _ _ (schedule_text c.loop-rest.rest.now) c.in_ok-make_room.ensures.ok));
  failures = grind arith;
}

pub returns-clause-err : goal.returns-clause-err
returns-clause-err g c =
    on_err_weaker c.write_all.result
    (beginning_after _ _ _ _ _ c.loop-rest.invariant.text)
    (on_err_weaker c.write_all.result (beginning_longer _ _ _ (schedule_text c.loop-rest.rest.now)) (rw (← c.as_slice.ensures.value) c.write_all.ensures.beginning))
