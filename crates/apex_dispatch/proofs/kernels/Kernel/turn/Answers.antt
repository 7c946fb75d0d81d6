use Rattle.std.proofs.Common.{◌<◌, length, refl, arith}
use Rattle.apex_types.specs.declared.entries.Event.TheVariants.{Turn}
use Rattle.apex_machine.specs.Machine.{machine_with}
use Rattle.apex_dispatch.specs.Kernel.{kernel_with}
use Rattle.apex_dispatch.specs.Situations.{situation_in}
use Rattle.apex_dispatch.proofs.Replays.{IsAfter, after_step, goes_once}
use Rattle.apex_dispatch.proofs.kernels.Kernel.turn.Given.{Over}
use Rattle.apex_dispatch.proofs.kernels.Kernel.turn.Goals.{After-append, After-append-in-None}
use Rattle.apex_dispatch.proofs.kernels.Kernel.turn.Goals as goal

pub turn_unless_idle-done-requires : goal.turn_unless_idle-done-requires
turn_unless_idle-done-requires g c =
    let room : length c.self.inside.log.entries < c.self.inside.table.limit =
    omega (arith, c.self.invariant.limit, c.in_ok-refuse_full.ensures.accepted.0 refl) in
    goes_once _ _ _ _ _ c.self.invariant room (Turn c.args.core)

-- the kernel after a turn that does a deed is the one after the turn
turned : (g : Over) (c : After-append g) →
    let inside = c.self.inside in
    let new = c.turn_unless_idle-done.new.self in
    IsAfter inside.table (machine_with inside.table inside.situation.roster inside.log.entries) (Turn c.args.core)
    (kernel_with inside.table (situation_in new) c.append.new.log.entries new.store) (situation_in new) c.append.new.log.limit
turned g c =
    let room : length c.self.inside.log.entries < c.self.inside.table.limit =
    omega (arith, c.self.invariant.limit, c.in_ok-refuse_full.ensures.accepted.0 refl) in
    let done = c.turn_unless_idle-done.ensures in
    after_step _ _ _ _ _ c.self.invariant room (Turn c.args.core) (situation_in c.turn_unless_idle-done.new.self) done.situation done.goes_on
    c.in-Some.ensures.done
    _ (rw c.now-now.ensures at c.append.ensures.entries) _ c.append.ensures.limit (rw (← c.self.view_is) at c.requires) _

-- and so is that after an idle turn
idled : (g : Over) (c : After-append-in-None g) →
    let inside = c.self.inside in
    let new = c.turn_unless_idle-done.new.self in
    IsAfter inside.table (machine_with inside.table inside.situation.roster inside.log.entries) (Turn c.args.core)
    (kernel_with inside.table (situation_in new) c.append-in-None.new.log.entries new.store) (situation_in new) c.append-in-None.new.log.limit
idled g c =
    let room : length c.self.inside.log.entries < c.self.inside.table.limit =
    omega (arith, c.self.invariant.limit, c.in_ok-refuse_full.ensures.accepted.0 refl) in
    let done = c.turn_unless_idle-done.ensures in
    after_step _ _ _ _ _ c.self.invariant room (Turn c.args.core) (situation_in c.turn_unless_idle-done.new.self) done.situation done.goes_on
    c.in-None.ensures.idle
    _ (rw (c.now-now.ensures, c.idle.ensures.caller, c.idle.ensures.call, c.idle.ensures.reply) at c.append-in-None.ensures.entries)
    _ c.append-in-None.ensures.limit (rw (← c.self.view_is) at c.requires) _

pub invariant_of-self : goal.invariant_of-self
invariant_of-self g c = (turned g c).kept

pub invariant_of-self-in-None : goal.invariant_of-self-in-None
invariant_of-self-in-None g c = (idled g c).kept

pub returns-in-Some-clause-done : goal.returns-in-Some-clause-done
returns-in-Some-clause-done g c = rw (← c.self.view_is) (turned g c).is

pub returns-in-None-clause-done : goal.returns-in-None-clause-done
returns-in-None-clause-done g c = rw (← c.self.view_is) (idled g c).is
