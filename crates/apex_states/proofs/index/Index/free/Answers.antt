use Rattle.std.proofs.Common.{◌≡◌, ◌<◌, ◌∙◌, length, map, sym, arith}
use Rattle.std.proofs.lemmas.List.{length-map}
use Rattle.apex_states.specs.Index.{place_in}
use Rattle.apex_states.proofs.Probing.{home_below, open_at, slot_below, taken_at, way_ends}
use Rattle.apex_states.proofs.index.Index.free.Goals as goal

pub slot_after-slot-requires-clause-slot : goal.slot_after-slot-requires-clause-slot
slot_after-slot-requires-clause-slot c = rw c.home-home.ensures (home_below c.len-size.result c.args.row.now (omega arith))

pub returns-in-None : goal.returns-in-None
returns-in-None c =
    let size : c.len-size.result ≡ length c.args.self.now.slots.items = omega arith in
    let under = slot_below c.len-size.result c.home-home.result c.loop-steps.steps c.slot_after-slot.result c.args.row.now (omega arith) c.home-home.ensures c.loop-steps-test.true c.slot_after-slot.ensures in
    let below : c.slot_after-slot.result < length c.args.self.now.slots.items = omega (arith, under) in
    open_at c.args.self.now.slots.items c.args.row.now c.len-size.result c.home-home.result c.loop-steps.steps c.slot_after-slot.result c.index.result.now size c.home-home.ensures c.loop-steps-test.true c.slot_after-slot.ensures below c.index.ensures (sym c.place.ensures ∙ c.in-None.is) c.loop-steps.invariant

pub loop-steps-preserved : goal.loop-steps-preserved
loop-steps-preserved c =
    let size : c.len-size.result ≡ length c.args.self.now.slots.items = omega arith in
    let under = slot_below c.len-size.result c.home-home.result c.loop-steps.steps c.slot_after-slot.result c.args.row.now (omega arith) c.home-home.ensures c.loop-steps-test.true c.slot_after-slot.ensures in
    let below : c.slot_after-slot.result < length c.args.self.now.slots.items = omega (arith, under) in
    taken_at c.args.self.now.slots.items c.args.row.now c.len-size.result c.home-home.result c.loop-steps.steps c.slot_after-slot.result c.in-Some.field-0 c.index.result.now size c.home-home.ensures c.slot_after-slot.ensures below c.index.ensures (sym c.place.ensures ∙ c.in-Some.is) c.loop-steps.invariant

pub unreachable-requires : goal.unreachable-requires
unreachable-requires c =
    let long : length (map place_in c.args.self.now.slots.items) ≡ length c.args.self.now.slots.items = length-map c.args.self.now.slots.items place_in in
    way_ends (map place_in c.args.self.now.slots.items) c.args.row.now (omega (arith, c.requires, long)) (λ i lt. c.loop-steps.invariant i (omega (arith, long)))
