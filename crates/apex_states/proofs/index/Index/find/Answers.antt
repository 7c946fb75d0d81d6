use Rattle.std.proofs.Common.{◌≡◌, ◌≢◌, ◌<◌, ◌∙◌, length, map, sym, arith}
use Rattle.std.proofs.lemmas.List.{length-map}
use Rattle.apex_states.specs.Index.{place_in}
use Rattle.apex_states.proofs.Probing.{home_below, slot_below, vacant_at, other_at, place_known, some_free}
use Rattle.apex_states.proofs.index.Index.find.Goals as goal

pub slot_after-slot-requires-clause-slot : goal.slot_after-slot-requires-clause-slot
slot_after-slot-requires-clause-slot c = rw c.home-home.ensures (home_below c.len-size.result c.args.row.now (omega arith))

pub returns-in-None : goal.returns-in-None
returns-in-None c =
    let size : c.len-size.result ≡ length c.args.self.now.slots.items = omega arith in
    let under = slot_below c.len-size.result c.home-home.result c.loop-steps.steps c.slot_after-slot.result c.args.row.now (omega arith) c.home-home.ensures c.loop-steps-test.true c.slot_after-slot.ensures in
    let below : c.slot_after-slot.result < length c.args.self.now.slots.items = omega (arith, under) in
    vacant_at c.args.self.now.slots.items c.args.rows.now.rows c.args.row.now c.len-size.result c.home-home.result c.loop-steps.steps c.slot_after-slot.result c.index.result.now c.requires.indexed size c.home-home.ensures c.loop-steps-test.true c.slot_after-slot.ensures below c.index.ensures (sym c.place.ensures ∙ c.in-None.is) c.loop-steps.invariant

pub row-requires : goal.row-requires
row-requires c =
    let under = slot_below c.len-size.result c.home-home.result c.loop-steps.steps c.slot_after-slot.result c.args.row.now (omega arith) c.home-home.ensures c.loop-steps-test.true c.slot_after-slot.ensures in
    let below : c.slot_after-slot.result < length c.args.self.now.slots.items = omega (arith, under) in
    place_known c.args.self.now.slots.items c.args.rows.now.rows c.slot_after-slot.result c.in-Some.place c.index.result.now c.requires.indexed below c.index.ensures (sym c.place.ensures ∙ c.in-Some.is)

pub loop-steps-preserved : goal.loop-steps-preserved
loop-steps-preserved c =
    let size : c.len-size.result ≡ length c.args.self.now.slots.items = omega arith in
    let under = slot_below c.len-size.result c.home-home.result c.loop-steps.steps c.slot_after-slot.result c.args.row.now (omega arith) c.home-home.ensures c.loop-steps-test.true c.slot_after-slot.ensures in
    let below : c.slot_after-slot.result < length c.args.self.now.slots.items = omega (arith, under) in
    let differs : c.row.result.now ≢ c.args.row.now = λ same. let no = sym (c.are_same.ensures.1 same) ∙ c.if-are_same.false in cc in
    other_at c.args.self.now.slots.items c.args.rows.now.rows c.args.row.now c.len-size.result c.home-home.result c.loop-steps.steps c.slot_after-slot.result c.in-Some.place c.index.result.now c.row.result.now size c.home-home.ensures c.slot_after-slot.ensures below c.index.ensures (sym c.place.ensures ∙ c.in-Some.is) c.row.ensures.row differs c.loop-steps.invariant

pub unreachable-requires : goal.unreachable-requires
unreachable-requires c =
    let long : length (map place_in c.args.self.now.slots.items) ≡ length c.args.self.now.slots.items = length-map c.args.self.now.slots.items place_in in
    some_free (map place_in c.args.self.now.slots.items) c.args.rows.now.rows c.args.row.now c.requires.indexed (omega (arith, long)) (λ i lt. c.loop-steps.invariant i (omega (arith, long)))
