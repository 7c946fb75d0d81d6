use Rattle.std.proofs.Common.{◌≡◌, Some, arith, sym, ◌∙◌, length-append}
use Rattle.std.proofs.lemmas.Int.{ints}
use Rattle.apex_machine.specs.services.Waking.{first_in, granted}
use Rattle.apex_machine.proofs.Loops.{made_by_none, made_by_all, leads_on}
use Rattle.apex_machine.proofs.Waking.{granted_gives, one_granted}
use Rattle.apex_store.proofs.waking.grant_all.Goals as goal

pub returns-in-None : goal.returns-in-None
returns-in-None g c =
    made_by_none (first_in c.args.queue.now) (granted c.args.message.now) _ _ _ _ _ _ c.loop-round.invariant.rest
    (omega arith) (sym c.in-None.ensures.value)

pub loop-round-preserved : goal.loop-round-preserved
loop-round-preserved g c =
    let queue = c.args.queue.now in
    let message = c.args.message.now in
    let old = g.S.Store.roster c.loop-round.store in
    let process = c.in-Some.process in
    let before = c.loop-round.invariant in
    let found : first_in queue old ≡ Some process = sym c.in-Some.ensures.value in
    let makes = c.grant.ensures in
    let gives = granted_gives message old process in
    record {
      rest = leads_on (first_in queue) (granted message) _ _ _ old _ _ _ process before.rest found makes;
      many = rw makes.roster (gives.many ∙ before.many);
      young = rw makes.roster (omega (arith, ints, gives.stamps, before.young));
      old = rw makes.roster (gives.older ∙ before.old);
      end = before.end;
      few = before.few;
      room = rw (makes.notices, length-append) (omega (arith, one_granted message old process, before.room));
    }

pub returns : goal.returns
returns g c =
    made_by_all (first_in c.args.queue.now) (granted c.args.message.now) _ _ _ _ _ _ c.loop-round.invariant.rest (omega arith)
