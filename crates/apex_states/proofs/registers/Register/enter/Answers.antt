use Rattle.std.proofs.Common.{◌+◌, ◌<◌, length, map, arith}
use Rattle.std.proofs.lemmas.List.{length-map}
use Rattle.std.specs.Vec.{vec_capacity}
use Rattle.apex_states.specs.Index.{place_in}
use Rattle.std.proofs.lemmas.Grind.{common_steps, elements}
use Rattle.apex_states.proofs.Registering.{IsRegistered-enter}
use Rattle.apex_states.proofs.registers.Register.enter.Goals as goal

pub invariant_of-self-2 : goal.invariant_of-self-2
invariant_of-self-2 c =
    let entered = rw c.len-number.ensures at c.enter.ensures.cells in
    let room = c.is_full.ensures.room c.if-is_full.false in
    let wide : length c.self.inside.rows.rows + 1 < length (map place_in c.widen.new.self.slots.items) =
    omega (arith, c.widen.ensures.wide room, length-map c.widen.new.self.slots.items place_in) in
    IsRegistered-enter c.self.inside.rows (map place_in c.widen.new.self.slots.items) (vec_capacity c.widen.new.self.slots) c.args.row.now c.in-Nowhere.slot
    c.push.new.self (map place_in c.enter.new.self.slots.items) (vec_capacity c.enter.new.self.slots)
    c.widen.ensures.kept c.in-Nowhere.ensures room wide c.push.ensures entered c.enter.ensures.memory

pub find-requires-clause-vacant : goal.find-requires-clause-vacant
find-requires-clause-vacant c = grind (arith, common_steps)

pub overflow_cast-result : goal.overflow_cast-result
overflow_cast-result c = grind (arith, elements)

pub enter-requires-clause-slot : goal.enter-requires-clause-slot
enter-requires-clause-slot c = grind (arith, common_steps)
