-- One fact more is found, and the end.
use Rattle.std.proofs.Common.{ap, subst, sym}
use Rattle.apex_explore.specs.Searches.{room_of}
use Rattle.apex_search.specs.Census.{EndSays}
use Rattle.apex_search.specs.declared.census.Census.{Census}
use Rattle.apex_search.specs.declared.census.End.{End}
use Rattle.apex_search.proofs.Censuses.{counting_begins, counting_ends, counting_more, fewer}
use Rattle.apex_search.proofs.systems.TableSystem.find_all.Goals as goal

pub loop-found-init : goal.loop-found-init
loop-found-init g c = rw c.new-found.ensures.items (counting_begins c.args.self.now c.args.search.now c.requires)

pub strike-requires-clause-hits : goal.strike-requires-clause-hits
strike-requires-clause-hits g c = rw c.as_slice.ensures.value (rw c.in-Found.is at c.in_ok-path.ensures.hits)

pub loop-found-smaller : goal.loop-found-smaller
loop-found-smaller g c =
    rw c.in_ok-fact-in-Found.ensures.others (fewer c.in_ok-fact-in-Found.fact c.loop-found.self.question.facts c.in_ok-fact-in-Found.ensures.asked)

pub loop-found-preserved : goal.loop-found-preserved
loop-found-preserved g c =
    counting_more c.args.self.now c.loop-found.self c.strike.new.self (room_of c.args.search.now) c.loop-found.search c.go_on.new.search
    c.loop-found.found.items c.push.new.self.items (record { fact = c.in_ok-fact-in-Found.fact; path = c.in-Found.path }) c.loop-found.invariant
    c.in_ok-path.ensures.search c.in_ok-path.ensures.room c.in_ok-fact-in-Found.ensures.asked
    (rw c.in-Found.is at c.in_ok-path.ensures.says)
    (rw c.as_slice.ensures.value at c.in_ok-fact-in-Found.ensures.shortest) c.in_ok-fact-in-Found.ensures.others c.in_ok-push-in-Found.ensures.items

pub returns-in-Closed : goal.returns-in-Closed
returns-in-Closed g c =
    counting_ends c.args.self.now c.loop-found.self (room_of c.args.search.now) c.loop-found.search c.loop-found.found.items c.ended.result c.loop-found.invariant
    (ap (λ (census : Census). census.found.items) c.ended.ensures) (ap (λ (census : Census). census.others) c.ended.ensures)
    (subst (λ (end : End). EndSays c.loop-found.self (room_of c.loop-found.search) end) (sym (ap (λ (census : Census). census.end) c.ended.ensures)) (rw c.in-Closed.is at c.in_ok-path.ensures.says))

pub returns-in-Full : goal.returns-in-Full
returns-in-Full g c =
    counting_ends c.args.self.now c.loop-found.self (room_of c.args.search.now) c.loop-found.search c.loop-found.found.items c.ended-in-Full.result c.loop-found.invariant
    (ap (λ (census : Census). census.found.items) c.ended-in-Full.ensures) (ap (λ (census : Census). census.others) c.ended-in-Full.ensures)
    (subst (λ (end : End). EndSays c.loop-found.self (room_of c.loop-found.search) end) (sym (ap (λ (census : Census). census.end) c.ended-in-Full.ensures)) (rw c.in-Full.is at c.in_ok-path.ensures.says))
