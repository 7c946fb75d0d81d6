use Rattle.std.proofs.Common.{◌<◌, ◌≤◌, arith}
use Rattle.std.proofs.lemmas.Result.{err_from_is_err_and}
use Rattle.apex_rounds.proofs.Parts.{ends_if, goes_if, schedule_begins, schedule_ends, schedule_first, schedule_goes, schedule_over, schedule_stops, schedule_within}
use Rattle.apex_rounds.proofs.rounds.Rounds.run_until.Goals as goal

pub loop-self-init : goal.loop-self-init
loop-self-init g c = rw (← c.self.view_is) (schedule_begins _ c.args.until c.holds.ensures.values c.holds.ensures.within)

pub returns-in_err-part-clause-makes : goal.returns-in_err-part-clause-makes
returns-in_err-part-clause-makes g c =
    let on : c.loop-self.self.kernel.machine.roster.now < c.args.until =
    rw (← c.self-in-loop-self.view_is) (rw c.now.ensures at c.loop-self-test.true) in
    let p = err_from_is_err_and c.from_residual.result c.from_residual.ensures.1 in
    rw p.1 (schedule_stops c.args.self.now c.loop-self.self c.args.until c.loop-self.invariant on p.0 c.part.new.self c.in_err-part.ensures.makes)

pub returns-in_err-part-clause-first : goal.returns-in_err-part-clause-first
returns-in_err-part-clause-first g c = schedule_first c.args.self.now c.part.new.self c.args.until (returns-in_err-part-clause-makes g c)

pub returns-then-not-branch-clause-makes : goal.returns-then-not-branch-clause-makes
returns-then-not-branch-clause-makes g c =
    let on : c.loop-self.self.kernel.machine.roster.now < c.args.until =
    rw (← c.self-in-loop-self.view_is) (rw c.now.ensures at c.loop-self-test.true) in
    schedule_ends c.args.self.now c.loop-self.self c.args.until c.loop-self.invariant on c.part.new.self c.in_ok-part.ensures.makes
    (ends_if _ _ c.in_ok-part.ensures.goes_on c.if-not-branch.true)

pub returns-then-not-branch-clause-first : goal.returns-then-not-branch-clause-first
returns-then-not-branch-clause-first g c = schedule_first c.args.self.now c.part.new.self c.args.until (returns-then-not-branch-clause-makes g c)

pub loop-self-smaller : goal.loop-self-smaller
loop-self-smaller g c =
    let on : c.loop-self.self.kernel.machine.roster.now < c.args.until =
    rw (← c.self-in-loop-self.view_is) (rw c.now.ensures at c.loop-self-test.true) in
    let goes = schedule_goes c.args.self.now c.loop-self.self c.args.until c.loop-self.invariant on c.part.new.self c.in_ok-part.ensures.makes
    (goes_if _ _ c.in_ok-part.ensures.goes_on c.if-not-branch.false) in
    omega (arith, goes.1, schedule_within c.args.self.now c.part.new.self c.args.until goes.0)

pub loop-self-preserved : goal.loop-self-preserved
loop-self-preserved g c =
    let on : c.loop-self.self.kernel.machine.roster.now < c.args.until =
    rw (← c.self-in-loop-self.view_is) (rw c.now.ensures at c.loop-self-test.true) in
    let goes = schedule_goes c.args.self.now c.loop-self.self c.args.until c.loop-self.invariant on c.part.new.self c.in_ok-part.ensures.makes
    (goes_if _ _ c.in_ok-part.ensures.goes_on c.if-not-branch.false) in
    goes.0

pub returns-clause-makes : goal.returns-clause-makes
returns-clause-makes g c =
    let over : c.args.until ≤ c.loop-self.self.kernel.machine.roster.now =
    rw (← c.self-in-loop-self.view_is) (rw c.now.ensures at c.loop-self-test.false) in
    schedule_over c.args.self.now c.loop-self.self c.args.until c.loop-self.invariant over

pub returns-clause-first : goal.returns-clause-first
returns-clause-first g c = schedule_first c.args.self.now c.loop-self.self c.args.until (returns-clause-makes g c)
