use Rattle.std.proofs.Common.{◌∙◌, ap}
use Rattle.apex_schedules.specs.Schedule.{events_of_items}
use Rattle.apex_steps.specs.Sessions.{Session, after_events}
use Rattle.apex_steps.proofs.Marks.{kept_grown, session_grown}
use Rattle.apex_steps.proofs.sessions.Session.make.Goals as goal

pub invariant_of-self : goal.invariant_of-self
invariant_of-self c =
    kept_grown c.self.inside.kernel c.run_items.new.kernel c.self.inside.marks.items (events_of_items c.args.items.now) c.run_items.new.kernel.store
    c.run_items.ensures.done c.self.invariant

pub returns-clause-session : goal.returns-clause-session
returns-clause-session c =
    session_grown c.self.inside.kernel c.run_items.new.kernel c.self.inside.marks.items (events_of_items c.args.items.now) c.run_items.new.kernel.store
    c.run_items.ensures.done c.self.invariant
    ∙ ap (λ (s : Session). after_events s (events_of_items c.args.items.now)) c.self.view_is
