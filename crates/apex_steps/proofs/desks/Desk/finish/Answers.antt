use Rattle.std.proofs.KnownBytes.{Appends-kept}
use Rattle.apex_history.specs.Counted.{inner_of}
use Rattle.apex_history.proofs.Outcomes.{OnErr-always}
use Rattle.apex_steps.proofs.Written.{OnOk-always, flushes, unflushed}
use Rattle.apex_steps.proofs.desks.Desk.finish.Goals as goal

pub returns-clause-ok : goal.returns-clause-ok
returns-clause-ok g c =
    OnOk-always c.flush.result (Appends-kept _ _ _ _ c.in_ok-hand_on.ensures.ok c.flush.ensures.bytes)

pub returns-clause-err : goal.returns-clause-err
returns-clause-err g c =
    OnErr-always c.flush.result (unflushed _ _ _ _ c.in_ok-hand_on.ensures.ok c.flush.ensures.bytes)

pub returns-clause-flushed : goal.returns-clause-flushed
returns-clause-flushed g c =
    flushes g.W.Sink.drains (inner_of c.hand_on.new.writer) (inner_of c.flush.new.self) c.flush.result c.flush.ensures.given
