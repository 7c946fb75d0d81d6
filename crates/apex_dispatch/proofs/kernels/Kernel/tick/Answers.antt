use Rattle.std.proofs.Common.{◌<◌, length, refl, arith}
use Rattle.apex_types.specs.declared.entries.Event.TheVariants.{Tick}
use Rattle.apex_machine.specs.Machine.{machine_with}
use Rattle.apex_dispatch.specs.Kernel.{kernel_with}
use Rattle.apex_dispatch.specs.Situations.{situation_in}
use Rattle.apex_dispatch.proofs.Replays.{IsAfter, after_step, goes_once}
use Rattle.apex_dispatch.proofs.kernels.Kernel.tick.Given.{Over}
use Rattle.apex_dispatch.proofs.kernels.Kernel.tick.Goals.{After-append}
use Rattle.apex_dispatch.proofs.kernels.Kernel.tick.Goals as goal

pub tick-deed-requires : goal.tick-deed-requires
tick-deed-requires g c =
    let room : length c.self.inside.log.entries < c.self.inside.table.limit =
    omega (arith, c.self.invariant.limit, c.in_ok-refuse_full.ensures.accepted.0 refl) in
    record { range = c.requires.range; can = goes_once _ _ _ _ _ c.self.invariant room (Tick c.args.n) }

-- the kernel afterwards is the one after the tick
ticked : (g : Over) (c : After-append g) →
    let inside = c.self.inside in
    let new = c.tick-deed.new.self in
    IsAfter inside.table (machine_with inside.table inside.situation.roster inside.log.entries) (Tick c.args.n)
    (kernel_with inside.table (situation_in new) c.append.new.log.entries new.store) (situation_in new) c.append.new.log.limit
ticked g c =
    let room : length c.self.inside.log.entries < c.self.inside.table.limit =
    omega (arith, c.self.invariant.limit, c.in_ok-refuse_full.ensures.accepted.0 refl) in
    let done = c.tick-deed.ensures in
    after_step _ _ _ _ _ c.self.invariant room (Tick c.args.n) (situation_in c.tick-deed.new.self) done.situation done.goes_on done.answer
    _ (rw c.now-now.ensures at c.append.ensures.entries) _ c.append.ensures.limit c.requires.range _

pub invariant_of-self : goal.invariant_of-self
invariant_of-self g c = (ticked g c).kept

pub returns-clause-done : goal.returns-clause-done
returns-clause-done g c = rw (← c.self.view_is) (ticked g c).is
