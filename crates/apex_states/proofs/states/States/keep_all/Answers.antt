-- The halves of the states are numbered, and their roots are entered.
use Rattle.std.proofs.Common.{arith}
use Rattle.std.proofs.lemmas.Grind.{common_steps}
use Rattle.apex_states.proofs.Rooting.{can_number_left, can_number_right, counts_found, kept_all}
use Rattle.apex_states.proofs.Storing.{IsStored-held}
use Rattle.apex_states.proofs.states.States.keep_all.Goals as goal

pub number_both-requires-clause-left : goal.number_both-requires-clause-left
number_both-requires-clause-left c = can_number_left c.self.inside.roots c.self.inside.left c.self.inside.right c.args.expansions.now c.self.invariant (rw (← c.self.view_is) at c.requires.wide)

pub number_both-requires-clause-right : goal.number_both-requires-clause-right
number_both-requires-clause-right c = can_number_right c.self.inside.roots c.self.inside.left c.self.inside.right c.args.expansions.now c.self.invariant (rw (← c.self.view_is) at c.requires.wide)

pub pair_all-requires : goal.pair_all-requires
pair_all-requires c =
    let numbered = c.in_ok-lefts.ensures in
    let wide = rw (← c.self.view_is) at c.requires.wide in
    let counts = counts_found c.self.inside.roots c.self.inside.left c.self.inside.right c.number_both.new.left c.number_both.new.right c.args.expansions.now c.in_ok-lefts.lefts.items c.in_ok-lefts.rights.items wide numbered.lefts numbered.rights in
    rw (c.as_slice.ensures.value, c.as_slice-2.ensures.value) (omega (arith, counts))

pub enter_all-requires-clause-count : goal.enter_all-requires-clause-count
enter_all-requires-clause-count c =
    let numbered = c.in_ok-lefts.ensures in
    let wide = rw (← c.self.view_is) at c.requires.wide in
    let counts = counts_found c.self.inside.roots c.self.inside.left c.self.inside.right c.number_both.new.left c.number_both.new.right c.args.expansions.now c.in_ok-lefts.lefts.items c.in_ok-lefts.rights.items wide numbered.lefts numbered.rights in
    let paired = rw (c.as_slice.ensures.value, c.as_slice-2.ensures.value) at c.in_ok-pairs.ensures in
    rw (c.as_slice-3.ensures.value, c.as_slice-4.ensures.value) (omega (arith, paired.count, counts, c.in_ok-origins.ensures.paired))

pub invariant_of-self : goal.invariant_of-self
invariant_of-self c =
    let numbered = c.number_both.ensures in
    IsStored-held c.self.inside.roots c.self.inside.left c.self.inside.right c.number_both.new.left c.number_both.new.right c.self.invariant numbered.held_left numbered.held_right numbered.left numbered.right

pub invariant_of-self-in_err-pairs : goal.invariant_of-self-in_err-pairs
invariant_of-self-in_err-pairs c =
    let numbered = c.number_both.ensures in
    IsStored-held c.self.inside.roots c.self.inside.left c.self.inside.right c.number_both.new.left c.number_both.new.right c.self.invariant numbered.held_left numbered.held_right numbered.left numbered.right

pub invariant_of-self-2 : goal.invariant_of-self-2
invariant_of-self-2 c =
    let numbered = c.in_ok-lefts.ensures in
    let wide = rw (← c.self.view_is) at c.requires.wide in
    let paired = rw (c.as_slice.ensures.value, c.as_slice-2.ensures.value) at c.in_ok-pairs.ensures in
    let kept = rw (c.as_slice-3.ensures.value, c.as_slice-4.ensures.value, c.in_ok-origins.ensures.origins) at c.enter_all.ensures in
    (kept_all c.self.inside.roots c.enter_all.new.roots c.self.inside.left c.self.inside.right c.number_both.new.left c.number_both.new.right c.args.expansions.now c.in_ok-lefts.lefts.items c.in_ok-lefts.rights.items c.in_ok-pairs.pairs.items c.enter_all.result
    c.self.invariant numbered.held_left numbered.held_right numbered.left numbered.right wide numbered.lefts numbered.rights paired kept).0

pub returns : goal.returns
returns c =
    let numbered = c.in_ok-lefts.ensures in
    let wide = rw (← c.self.view_is) at c.requires.wide in
    let paired = rw (c.as_slice.ensures.value, c.as_slice-2.ensures.value) at c.in_ok-pairs.ensures in
    let kept = rw (c.as_slice-3.ensures.value, c.as_slice-4.ensures.value, c.in_ok-origins.ensures.origins) at c.enter_all.ensures in
    rw (← c.self.view_is) (kept_all c.self.inside.roots c.enter_all.new.roots c.self.inside.left c.self.inside.right c.number_both.new.left c.number_both.new.right c.args.expansions.now c.in_ok-lefts.lefts.items c.in_ok-lefts.rights.items c.in_ok-pairs.pairs.items c.enter_all.result
    c.self.invariant numbered.held_left numbered.held_right numbered.left numbered.right wide numbered.lefts numbered.rights paired kept).1

pub enter_all-requires-clause-paired : goal.enter_all-requires-clause-paired
enter_all-requires-clause-paired c = grind (arith, common_steps)
