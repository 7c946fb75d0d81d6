use Rattle.std.proofs.Common.{◌≡◌, Some, refl, length, arith, sym, length-append}
use Rattle.apex_machine.specs.services.PartitionServices.{first_to_start, begin_waiter, enter_normal}
use Rattle.apex_types.specs.declared.modes.Mode.TheVariants.{Normal}
use Rattle.apex_machine.proofs.Reaches.{reaches_then}
use Rattle.apex_machine.proofs.Modes.{reaches_set_mode}
use Rattle.apex_machine.proofs.Starts.{first_may_wait}
use Rattle.apex_laws.proofs.Begun.{reach_begin_waiter, stays_begun, few_starts, begun_normal}
use Rattle.apex_machine.proofs.Loops.{made_by_none, made_by_all, leads_on}
use Rattle.apex_services.proofs.services.partition.enter_normal.Goals as goal

pub loop-round-init : goal.loop-round-init
unfolding enter_normal
loop-round-init g c =
    let old = g.S.Store.roster c.args.store.now in
    let entered = c.set_mode.ensures in
    record {
      rest = λ left e.
          let all : left ≡ length old.records = omega (arith, e, rw entered at c.process_count-round-end.ensures.value) in
          rw (entered, all) refl;
      reaches = rw entered (reaches_set_mode old Normal refl);
      begun = rw entered (begun_normal old c.requires.starts);
      end = rw entered at c.process_count-round-end.ensures.value;
      few = c.process_count-round-end.ensures.range;
      room = omega (arith, c.requires.can.room);
    }

pub returns-in-None : goal.returns-in-None
returns-in-None g c =
    made_by_none first_to_start begin_waiter _ _ _ _ _ _ c.loop-round.invariant.rest
    (omega arith) (sym c.in-None.ensures.value)

pub begin_waiter-requires-clause-free : goal.begin_waiter-requires-clause-free
begin_waiter-requires-clause-free g c =
    first_may_wait (g.S.Store.roster c.loop-round.store) c.loop-round.invariant.begun.starts
    c.in-Some.process (sym c.in-Some.ensures.value)

pub loop-round-preserved : goal.loop-round-preserved
loop-round-preserved g c =
    let old = g.S.Store.roster c.loop-round.store in
    let process = c.in-Some.process in
    let before = c.loop-round.invariant in
    let found : first_to_start old ≡ Some process = sym c.in-Some.ensures.value in
    let makes = c.begin_waiter.ensures in
    let reaches = reach_begin_waiter old process before.begun found in
    record {
      rest = leads_on first_to_start begin_waiter _ _ _ old _ _ _ process before.rest found makes;
      reaches = rw makes.roster (reaches_then c.loop-round.round 1 before.reaches reaches);
      begun = rw makes.roster (stays_begun old process before.begun found);
      end = before.end;
      few = before.few;
      room = rw (makes.notices, length-append) (omega (arith, few_starts old process, before.room));
    }

pub returns : goal.returns
returns g c = made_by_all first_to_start begin_waiter _ _ _ _ _ _ c.loop-round.invariant.rest (omega arith)
