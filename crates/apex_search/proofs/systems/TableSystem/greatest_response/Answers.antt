-- A greater response is found, and the end.
use Rattle.std.proofs.Common.{ℕ, ◌∙◌, arith, subst}
use Rattle.apex_explore.specs.Searches.{room_of}
use Rattle.apex_search.specs.Answers.{HasStates, IsRoomUsedUp}
use Rattle.apex_search.specs.Worst.{AllBelow, AllBelowWithin, HasResponseBeyond, IsSlower, responding}
use Rattle.apex_search.proofs.Responses.{again, rising_begins, rising_more}
use Rattle.apex_search.proofs.systems.TableSystem.greatest_response.Goals as goal

pub loop-found-init : goal.loop-found-init
loop-found-init g c system same = rising_begins system c.args.self.now c.args.process c.args.search.now same c.requires.search

pub next_response-requires-clause-asks : goal.next_response-requires-clause-asks
next_response-requires-clause-asks g c =
    λ κs within. again c.args.self.now c.loop-found.self c.args.process c.loop-found.least (c.loop-found.invariant c.args.self.now c.requires.asks).same

pub next_response-requires-clause-search : goal.next_response-requires-clause-search
next_response-requires-clause-search g c = λ κs within. (c.loop-found.invariant c.args.self.now c.requires.asks).of

pub overflow_add-least : goal.overflow_add-least
overflow_add-least g c =
    let system = c.args.self.now in
    let slower : IsSlower system c.next_response.new.self c.args.process c.loop-found.least c.next_response.new.search c.in-Slower.slowest =
    rw c.in-Slower.is at (c.in_ok-slowest.ensures.says system (c.loop-found.invariant system c.requires.asks).same) in
    omega (arith, slower.few)

pub loop-found-smaller : goal.loop-found-smaller
loop-found-smaller g c =
    let system = c.args.self.now in
    let slower : IsSlower system c.next_response.new.self c.args.process c.loop-found.least c.next_response.new.search c.in-Slower.slowest =
    rw c.in-Slower.is at (c.in_ok-slowest.ensures.says system (c.loop-found.invariant system c.requires.asks).same) in
    omega (arith, slower.few, slower.more)

pub loop-found-preserved : goal.loop-found-preserved
loop-found-preserved g c system same =
    let rising = c.loop-found.invariant system same in
    rising_more system c.next_response.new.self c.args.process c.loop-found.least (room_of c.args.search.now) c.next_response.new.search
    c.in-Slower.slowest (rw c.in-Slower.is at (c.in_ok-slowest.ensures.says system rising.same))
    (c.in_ok-slowest.ensures.room ∙ rising.room_is)

pub returns-in-Overrun : goal.returns-in-Overrun
returns-in-Overrun g c system same = rw c.in-Overrun.is at (c.in_ok-slowest.ensures.says system (c.loop-found.invariant system same).same)

pub returns-in-Closed : goal.returns-in-Closed
returns-in-Closed g c system same =
    let rising = c.loop-found.invariant system same in
    let says = rw c.in-Closed.is at (c.in_ok-slowest.ensures.says system rising.same) in (
      rising.best,
      subst (AllBelow system c.args.process) rising.is says.0,
      subst (λ (n : ℕ). HasStates (responding system c.args.process n) c.in-Closed.states) rising.is says.1,
    )

pub returns-in-Full : goal.returns-in-Full
returns-in-Full g c system same =
    let rising = c.loop-found.invariant system same in
    let says = rw c.in-Full.is at (c.in_ok-slowest.ensures.says system rising.same) in (
      rising.best,
      subst (λ (n : ℕ). AllBelowWithin system c.args.process n c.in-Full.depth) rising.is says.0,
      subst (λ (n : ℕ). IsRoomUsedUp (responding system c.args.process n) (room_of c.args.search.now) c.in-Full.depth) rising.is
          (subst (λ (room : ℕ). IsRoomUsedUp (responding system c.args.process c.loop-found.least) room c.in-Full.depth) rising.room_is says.1),
    )

pub returns-in-Beyond : goal.returns-in-Beyond
returns-in-Beyond g c system same =
    let rising = c.loop-found.invariant system same in
    let says = rw c.in-Beyond.is at (c.in_ok-slowest.ensures.says system rising.same) in (
      rising.best,
      says.0,
      subst (λ (n : ℕ). AllBelowWithin system c.args.process n c.in-Beyond.limit) rising.is says.1,
      subst (λ (n : ℕ). HasResponseBeyond system c.args.process n c.in-Beyond.limit) rising.is says.2,
    )
