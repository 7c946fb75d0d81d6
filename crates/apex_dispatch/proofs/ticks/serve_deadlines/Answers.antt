use Rattle.std.proofs.Common.{◌≡◌, ◌<◌, ◌+◌, ◌++◌, length, Some, None, refl, ◌∙◌, arith, sym, ap, length-append}
use Rattle.std.proofs.lemmas.Int.{ints}
use Rattle.std.proofs.lemmas.List.Sums.{count_by-le-length}
use Rattle.apex_machine.specs.processes.Dues.{first_missed, is_missed_at}
use Rattle.apex_machine.specs.services.InTurn.{Changed, Makes}
use Rattle.apex_machine.specs.processes.Stamps.{set_deadline, without_deadline_of}
use Rattle.apex_machine.specs.Ticks.{serve_missed}
use Rattle.apex_machine.proofs.Dues.{first_missed_within}
use Rattle.apex_machine.proofs.Reaches.{reaches_more, reaches_none, reaches_then}
use Rattle.apex_laws.proofs.MissesServed.{may_wake, missed_is, missed_tells, reach_serve_missed}
use Rattle.apex_machine.proofs.Loops.{made_by_none, made_by_all, leads_on}
use Rattle.apex_dispatch.proofs.ticks.serve_deadlines.Goals as goal

pub loop-round-init : goal.loop-round-init
loop-round-init g c =
    let old = g.S.Store.roster c.args.store.now in
    let some = count_by-le-length (may_wake old.now) old.records in
    let others = count_by-le-length (is_missed_at old.now) old.records in
    record {
      rest = λ left e.
          let all : left ≡ length old.records = omega (arith, e, c.process_count-round-end.ensures.value) in
          rw all refl;
      reaches = rw c.requires.room (reaches_none 0 old);
      starts = c.requires.starts;
      end = c.process_count-round-end.ensures.value;
      room = rw c.requires.room (omega (arith, some, others));
    }

pub returns-in-None : goal.returns-in-None
returns-in-None g c =
    let nobody = sym c.in-None.ensures.value in
    let same = c.in-None.ensures.taken ∙ ap (without_deadline_of (g.S.Store.roster c.loop-round.store)) nobody in
    rw same (made_by_none first_missed serve_missed _ _ _ _ _ _ c.loop-round.invariant.rest (omega arith) nobody)

pub miss-requires-clause-stamps : goal.miss-requires-clause-stamps
miss-requires-clause-stamps g c =
    let old = g.S.Store.roster c.loop-round.store in
    let before = c.loop-round.invariant in
    let found : first_missed old ≡ Some c.in-Some.process = sym c.in-Some.ensures.value in
    let freed = c.in-Some.ensures.taken ∙ ap (without_deadline_of old) found in
    let many = c.requires.stamps in
    rw freed (record {
      young = omega (arith, ints, before.reaches.moves.stamps, many.young, before.room, c.requires.few_processes);
      old = omega (arith, ints, before.reaches.moves.older, many.old, before.room, c.requires.few_processes);
    })

pub miss-requires-clause-room : goal.miss-requires-clause-room
miss-requires-clause-room g c =
    let old = g.S.Store.roster c.loop-round.store in
    let process = c.in-Some.process in
    let before = c.loop-round.invariant in
    let found : first_missed old ≡ Some process = sym c.in-Some.ensures.value in
    let freed = c.in-Some.ensures.taken ∙ ap (without_deadline_of old) found in
    let kind = ap (λ (r : _). r.attributes.deadline) c.record.ensures in
    let is = missed_is old (g.S.Store.roster c.take_missed.new.self) process _ (first_missed_within old process found) freed kind in
    let told = ap (λ (changed : Changed). length changed.notices) is in
    let tells = missed_tells old process found in
    omega (arith, told, tells.wakes, tells.misses, before.room, c.requires.few_processes)

pub loop-round-preserved : goal.loop-round-preserved
loop-round-preserved g c =
    let old = g.S.Store.roster c.loop-round.store in
    let process = c.in-Some.process in
    let before = c.loop-round.invariant in
    let found : first_missed old ≡ Some process = sym c.in-Some.ensures.value in
    let known : process < length old.records = first_missed_within old process found in
    let freed : g.S.Store.roster c.take_missed.new.self ≡ set_deadline old process None =
    c.in-Some.ensures.taken ∙ ap (without_deadline_of old) found in
    let kind = ap (λ (r : _). r.attributes.deadline) c.record.ensures in
    let is = missed_is old (g.S.Store.roster c.take_missed.new.self) process _ known freed kind in
    let makes : Makes (serve_missed old process) (g.S.Store.roster c.miss.new.store)
    c.loop-round.notices c.miss.new.notices = rw (← is) c.miss.ensures in
    let reaches = reach_serve_missed old process before.starts found in
    let told = (serve_missed old process).notices in
    let tells = missed_tells old process found in
    record {
      rest = leads_on first_missed serve_missed _ _ _ old _ _ _ process before.rest found makes;
      reaches = rw (makes.roster, makes.notices)
          (reaches_more (length c.loop-round.notices + length told) (length (c.loop-round.notices ++ told))
          (omega (arith, length-append c.loop-round.notices told))
          (reaches_then (length c.loop-round.notices) (length told) before.reaches reaches));
      starts = rw makes.roster (reaches.moves.starts before.starts);
      end = before.end;
      room = rw (makes.roster, makes.notices, reaches.moves.time, length-append)
          (omega (arith, before.room, tells.wakes, tells.misses));
    }

pub returns : goal.returns
returns g c = made_by_all first_missed serve_missed _ _ _ _ _ _ c.loop-round.invariant.rest (omega arith)
