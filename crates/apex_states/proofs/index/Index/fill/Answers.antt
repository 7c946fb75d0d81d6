use Rattle.std.proofs.Common.{rules, ◌≡◌, ◌≤◌, replicate, arith}
use Rattle.std.specs.Vec.{vec_capacity}
use Rattle.std.proofs.lemmas.Grind.{common_steps}
use Rattle.apex_states.proofs.Filling.{IsFilling-next, IsFilling-start}
use Rattle.apex_states.proofs.index.Index.fill.Goals as goal

pub loop-place-init : goal.loop-place-init
loop-place-init c =
    let filled : c.resize.new.self.items ≡ replicate c.args.size (record { code = 0 }) = search rules in
    let enough : vec_capacity c.args.self.now.slots ≤ vec_capacity c.resize.new.self = omega (arith, c.clear.ensures.capacity, c.in-Ok.ensures.capacity) in
    IsFilling-start c.args.rows.now.rows c.args.size (vec_capacity c.args.self.now.slots) c.resize.new.self.items (vec_capacity c.resize.new.self) filled enough

pub loop-place-preserved : goal.loop-place-preserved
loop-place-preserved c =
    IsFilling-next c.args.rows.now.rows c.args.size (vec_capacity c.args.self.now.slots) c.loop-place.place c.row.result.now c.free-slot.result
    c.loop-place.self.slots.items c.enter.new.self.slots.items (vec_capacity c.loop-place.self.slots) (vec_capacity c.enter.new.self.slots)
    c.row.ensures.row c.loop-place.invariant c.free-slot.ensures c.enter.ensures.cells c.enter.ensures.memory

pub enter-requires-clause-slot : goal.enter-requires-clause-slot
enter-requires-clause-slot c = grind (arith, common_steps)

pub returns-clause-indexed : goal.returns-clause-indexed
returns-clause-indexed c = grind (arith, common_steps)
