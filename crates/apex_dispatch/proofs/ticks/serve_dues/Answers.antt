use Rattle.std.proofs.Common.{◌≡◌, ◌<◌, length, Some, ◌∙◌, arith, sym, ap, length-append}
use Rattle.apex_machine.specs.processes.Dues.{first_due}
use Rattle.apex_machine.specs.services.InTurn.{Makes}
use Rattle.apex_machine.specs.processes.Stamps.{without_due, without_due_of}
use Rattle.apex_machine.specs.Ticks.{serve_due}
use Rattle.apex_machine.proofs.Dues.{first_due_within}
use Rattle.apex_machine.proofs.Reaches.{reaches_then}
use Rattle.apex_laws.proofs.DuesServed.{IsServable, reach_serve_due, one_due, one_less, served_is}
use Rattle.apex_machine.proofs.Loops.{made_by_none, made_by_all, leads_on}
use Rattle.apex_dispatch.proofs.ticks.serve_dues.Goals as goal

pub returns-in-None : goal.returns-in-None
returns-in-None g c =
    let nobody = sym c.in-None.ensures.value in
    let same = c.in-None.ensures.taken ∙ ap (without_due_of (g.S.Store.roster c.loop-round.store)) nobody in
    rw same (made_by_none first_due serve_due _ _ _ _ _ _ c.loop-round.invariant.rest (omega arith) nobody)

pub loop-round-preserved : goal.loop-round-preserved
loop-round-preserved g c =
    let old = g.S.Store.roster c.loop-round.store in
    let process = c.in-Some.process in
    let before = c.loop-round.invariant in
    let found : first_due old ≡ Some process = sym c.in-Some.ensures.value in
    let known : process < length old.records = first_due_within old process found in
    let freed : g.S.Store.roster c.take_due.new.self ≡ without_due old process =
    c.in-Some.ensures.taken ∙ ap (without_due_of old) found in
    let wait = ap (λ (r : _). r.wait) c.«record».ensures in
    let is = served_is old (g.S.Store.roster c.take_due.new.self) process _ known freed wait in
    let makes : Makes (serve_due old process) (g.S.Store.roster c.wait_over.new.store)
    c.loop-round.notices c.wait_over.new.notices = rw (← is) c.wait_over.ensures in
    let servable : IsServable old = record { starts = before.starts; times = before.times } in
    let reaches = reach_serve_due old process servable found in
    let less = one_less old process servable found in
    record {
      rest = leads_on first_due serve_due _ _ _ old _ _ _ process before.rest found makes;
      reaches = rw makes.roster (reaches_then c.loop-round.round 1 before.reaches reaches);
      starts = rw makes.roster (reaches.moves.starts before.starts);
      times = rw makes.roster (reaches.moves.times before.times);
      end = before.end;
      room = rw (makes.roster, makes.notices, length-append) (omega (arith, one_due old process, less, before.room));
    }

pub returns : goal.returns
returns g c = made_by_all first_due serve_due _ _ _ _ _ _ c.loop-round.invariant.rest (omega arith)

pub wait_over-requires-clause-room : goal.wait_over-requires-clause-room
wait_over-requires-clause-room g c =
    let old = g.S.Store.roster c.loop-round.store in
    let before = c.loop-round.invariant in
    let servable : IsServable old = record { starts = before.starts; times = before.times } in
    let less = one_less old c.in-Some.process servable (sym c.in-Some.ensures.value) in
    omega (arith, less, c.loop-round.invariant.room)
