use Rattle.std.proofs.Common.{◌≡◌, ◌∙◌, ◌+◌, refl, sym, subst, arith}
use Rattle.apex_types.specs.declared.entries.Event.TheVariants.{Turn}
use Rattle.apex_types.specs.declared.entries.Who.TheVariants.{Core}
use Rattle.apex_machine.specs.Situations.{step}
use Rattle.apex_laws.specs.GoesOn.{CanGoOn}
use Rattle.apex_dispatch.specs.Situations.{situation_with}
use Rattle.apex_laws.proofs.GoesOn.{can_serve, due_is, goes_on}
use Rattle.apex_dispatch.proofs.MachineSteps.{after_does}
use Rattle.apex_dispatch.proofs.situations.Situation.turn_unless_idle.Given.{Over}
use Rattle.apex_dispatch.proofs.situations.Situation.turn_unless_idle.Goals.{After-watch, After-watch-in-None}
use Rattle.apex_dispatch.proofs.situations.Situation.turn_unless_idle.Goals as goal

pub carry_out-requires : goal.carry_out-requires
carry_out-requires g c =
    let can = rw (← c.self.view_is) at c.requires in
    let inside = c.self.inside in
    let s = situation_with (g.S.Store.roster inside.store) inside.objects inside.works inside.made in
    let found = rw (← c.self.view_is) at c.due_call-due.ensures in
    record {
      begun = λ o e. rw can.records (can.workers c.args.core o (sym c.at.ensures ∙ e));
      due = λ call e. (due_is c.args.table.now c.lawful.ensures s c.args.core call (sym found ∙ e)).known;
      records = can.records;
      objects = can.objects;
      starts = can.starts;
      can = rw c.clear.ensures (can_serve can);
      releases = λ p. (can.times p).release;
    }

-- the situation after a turn that does a deed is the next one
stepped : (g : Over) (c : After-watch g) →
    let inside = c.self.inside in
    let left = c.carry_out.new in
    situation_with (g.S.Store.roster left.store) left.objects c.watch.new.self (inside.made + c.steps_by.result)
    ≡ step c.args.table.now (situation_with (g.S.Store.roster inside.store) inside.objects inside.works inside.made) (Turn c.args.core)
stepped g c =
    let inside = c.self.inside in
    let s = situation_with (g.S.Store.roster inside.store) inside.objects inside.works inside.made in
    let due = rw (← c.self.view_is) at c.due_call-due.ensures in
    let done = rw (c.at.ensures, due) at c.in-Some.ensures.done in
    after_does s (Core c.args.core) _ done c.watch.new.self
    (λ core. c.watch.ensures core ∙ rw (c.begin.ensures core, c.begun.ensures) refl) _ (rw c.steps_by.ensures refl)

-- and so is that after an idle turn
idled : (g : Over) (c : After-watch-in-None g) →
    let inside = c.self.inside in
    let left = c.carry_out.new in
    situation_with (g.S.Store.roster left.store) left.objects c.watch-in-None.new.self inside.made
    ≡ step c.args.table.now (situation_with (g.S.Store.roster inside.store) inside.objects inside.works inside.made) (Turn c.args.core)
idled g c =
    let inside = c.self.inside in
    let s = situation_with (g.S.Store.roster inside.store) inside.objects inside.works inside.made in
    let due = rw (← c.self.view_is) at c.due_call-due.ensures in
    let idle = rw (c.at.ensures, due) at c.in-None.ensures.idle in
    after_does s (Core c.args.core) _ idle c.watch-in-None.new.self
    (λ core. c.watch-in-None.ensures core ∙ rw (c.begin-in-None.ensures core) refl) _ (omega arith)

pub returns-in-Some-clause-situation : goal.returns-in-Some-clause-situation
returns-in-Some-clause-situation g c = rw (← c.self.view_is) (stepped g c)

pub returns-in-None-clause-situation : goal.returns-in-None-clause-situation
returns-in-None-clause-situation g c = rw (← c.self.view_is) (idled g c)

pub returns-in-Some-clause-done : goal.returns-in-Some-clause-done
returns-in-Some-clause-done g c =
    let due = rw (← c.self.view_is) at c.due_call-due.ensures in
    rw (← c.self.view_is) (rw (c.clear.ensures, c.at.ensures, due) at c.in-Some.ensures.done)

pub returns-in-None-clause-idle : goal.returns-in-None-clause-idle
returns-in-None-clause-idle g c =
    let due = rw (← c.self.view_is) at c.due_call-due.ensures in
    rw (← c.self.view_is) (rw (c.clear.ensures, c.at.ensures, due) at c.in-None.ensures.idle)

pub returns-in-Some-clause-goes_on : goal.returns-in-Some-clause-goes_on
returns-in-Some-clause-goes_on g c left can =
    let before = rw (← c.self.view_is) at can in
    subst (CanGoOn c.args.table.now left) (sym (stepped g c))
    (goes_on c.args.table.now c.lawful.ensures _ left before (Turn c.args.core) tt)

pub returns-in-None-clause-goes_on : goal.returns-in-None-clause-goes_on
returns-in-None-clause-goes_on g c left can =
    let before = rw (← c.self.view_is) at can in
    subst (CanGoOn c.args.table.now left) (sym (idled g c))
    (goes_on c.args.table.now c.lawful.ensures _ left before (Turn c.args.core) tt)
