-- The fact that is tried, and whether the path leads to it.
use Rattle.std.proofs.Common.{◌≡◌, ◌∙◌, ◌<◌, List, length, Some, slice_index_or, ap, subst, arith}
use Rattle.std.proofs.lemmas.Option.{slice_get-get_or}
use Rattle.std.specs.List.{slice_get}
use Rattle.apex_search.specs.Terms.{Fact}
use Rattle.apex_questions.specs.declared.Fact.TheVariants.{Missed}
use Rattle.apex_search.proofs.Censuses.{at_place}
use Rattle.apex_search.proofs.Striking.{strike_ends, strike_hits, strike_more, strike_others, strike_shortest}
use Rattle.apex_search.proofs.systems.TableSystem.strike.Goals as goal

-- the fact at a place of the same list
here : (list facts : List Fact) (place : _) → list ≡ facts → place < length list → slice_get facts place ≡ Some (slice_index_or list place Missed)
here list facts place same below =
    subst (λ (xs : List Fact). slice_get xs place ≡ Some (slice_index_or list place Missed)) same (slice_get-get_or list place Missed below)

pub returns-then-branch-clause-asked : goal.returns-then-branch-clause-asked
returns-then-branch-clause-asked c =
    let list = c.as_slice-fact-items.result.now in
    let facts = c.args.self.now.question.facts in
    let place = c.loop-fact.fact-index in
    at_place facts place (slice_index_or list place Missed) (here list facts place (c.as_slice-fact-items.ensures.value ∙ c.facts-facts.ensures) c.loop-fact-test.true)

pub returns-then-branch-clause-shortest : goal.returns-then-branch-clause-shortest
returns-then-branch-clause-shortest c =
    let list = c.as_slice-fact-items.result.now in
    let facts = c.args.self.now.question.facts in
    let place = c.loop-fact.fact-index in
    let fact = slice_index_or list place Missed in
    let asked = at_place facts place fact (here list facts place (c.as_slice-fact-items.ensures.value ∙ c.facts-facts.ensures) c.loop-fact-test.true) in
    let hit = strike_hits c.args.self.now c.loop-fact.self c.ask.new.self c.args.path.now place fact c.one.result c.in_ok-is_hit.field-0 c.loop-fact.invariant c.one.ensures c.ask.ensures c.in_ok-is_hit.ensures c.if-branch.true in
    strike_shortest c.args.self.now c.lawful.ensures.pace c.lawful.ensures.table c.lawful.ensures.reach c.forms_stand_for_situations.ensures c.words_are_exact.ensures c.same_forms_have_the_same_words.ensures
    fact asked c.args.path.now c.requires.shortest hit

pub returns-then-branch-clause-others : goal.returns-then-branch-clause-others
returns-then-branch-clause-others c =
    let list = c.as_slice-fact-items.result.now in
    let place = c.loop-fact.fact-index in
    let fact = slice_index_or list place Missed in
    rw (← c.facts-facts.ensures) (rw (← c.without.ensures) (strike_others c.args.self.now c.loop-fact.self c.ask.new.self c.args.path.now place fact c.one.result c.in_ok-is_hit.field-0 c.loop-fact.invariant c.one.ensures c.ask.ensures c.in_ok-is_hit.ensures
    c.without.result c.ask-then-branch.new.self c.ask-then-branch.ensures))

pub loop-fact-preserved : goal.loop-fact-preserved
loop-fact-preserved c =
    let list = c.as_slice-fact-items.result.now in
    let facts = c.args.self.now.question.facts in
    let place = c.loop-fact.fact-index in
    let fact = slice_index_or list place Missed in
    strike_more c.args.self.now c.loop-fact.self c.ask.new.self c.args.path.now place fact c.one.result c.in_ok-is_hit.field-0 c.loop-fact.invariant c.one.ensures c.ask.ensures c.in_ok-is_hit.ensures
    (here list facts place (c.as_slice-fact-items.ensures.value ∙ c.facts-facts.ensures) c.loop-fact-test.true) c.if-branch.false

pub unreachable-requires : goal.unreachable-requires
unreachable-requires c =
    let same = ap length (c.as_slice-fact-items.ensures.value ∙ c.facts-facts.ensures) in
    strike_ends c.args.self.now c.loop-fact.self c.args.path.now c.loop-fact.fact-index c.loop-fact.invariant (omega (arith, same, c.loop-fact-test.false)) c.requires.hits
