use Rattle.std.proofs.Common.{◌≡◌, ◌∙◌, Some, length, sym, arith, rules}
use Rattle.apex_machine.proofs.Choice.{place_found}
use Rattle.apex_store.proofs.FirstPassing.{first_passing}
use Rattle.apex_store.proofs.scan.first_of.Goals as goal

pub loop-place-init : goal.loop-place-init
loop-place-init g c =
    let found : c.place_passing.result ≡ Some c.in_ok-first.first = search rules in
    record {
      stands = first_passing _ _ _ _ (g.met.O.Order.ranks c.args.order.now) (sym c.place_passing.ensures.value ∙ found);
      within = omega arith;
      reach = search rules;
    }

pub returns-clause-value : goal.returns-clause-value
returns-clause-value g c =
    let e : c.loop-place.place ≡ length c.args.records.now =
    omega (arith, c.loop-place.auto.place-end, c.loop-place-test.false, c.loop-place.invariant.reach) in
    rw c.at.ensures (sym (place_found _ _ c.args.records.now (Some c.loop-place.first) (rw e at c.loop-place.invariant.stands)))
