-- What was made at the desks, one after the other.
use Rattle.std.proofs.Common.{◌≡◌, ◌<◌, ◌≤◌, length, Ok, Some, sym, ap, ◌∙◌, arith}
use Rattle.std.proofs.lemmas.Option.{slice_get-get_or, slice_get_within}
use Rattle.std.specs.List.{slice_get}
use Rattle.apex_explore.specs.Desks.{IsDesk}
use Rattle.apex_explore.specs.Systems.{step_within}
use Rattle.apex_jobs.proofs.Rounds.{made_desk, AreGathering-next}
use Rattle.apex_jobs.proofs.expanding.gather.Goals as goal

pub loop-place-preserved : goal.loop-place-preserved
loop-place-preserved g c =
    let step = step_within (g.S.System.choice_count c.args.system.now) (g.S.System.step c.args.system.now) in
    let word_count = g.S.System.word_count c.args.system.now in
    let is_workspace = g.S.System.is_workspace c.args.system.now in
    let place = c.loop-place.place in
    let was = c.index-desks-place.result in
    let expansion = c.in_ok-made.field-0 in
    let short : place < length c.loop-place.desks = omega arith in
    let here : slice_get c.loop-place.desks place ≡ Some was = slice_get-get_or c.loop-place.desks place was short ∙ ap Some (sym c.index-desks-place.is) in
    let before = c.loop-place.invariant.rest place was (omega arith) here in
    let (copies, made) = c.requires place was before in
    let taken : was.made ≡ c.take.result = rw c.index-desks-place.is (sym c.take.ensures.made) in
    let is : was.made ≡ Some (Ok expansion) = taken ∙ (c.in-Some.is ∙ ap Some c.in_ok-made.was) in
    let desk : IsDesk word_count is_workspace c.take.new.self = rw (c.take.ensures.same, ← c.index-desks-place.is) (made_desk step word_count (g.S.System.is_state c.args.system.now) is_workspace copies was expansion made is) in
    rw c.in_ok-push.ensures.items (AreGathering-next word_count is_workspace c.args.desks.now c.loop-place.desks c.loop-place.expansions.items place was c.take.new.self expansion here is desk c.loop-place.invariant)

pub returns-clause-desks : goal.returns-clause-desks
returns-clause-desks g c = λ place desk is.
    let past : length c.loop-place.desks ≤ c.loop-place.place = omega arith in
    c.loop-place.invariant.done place desk (omega (arith, slice_get_within c.loop-place.desks place desk is, past)) is

pub unreachable-requires : goal.unreachable-requires
unreachable-requires g c =
    let place = c.loop-place.place in
    let was = c.index-desks-place.result in
    let short : place < length c.loop-place.desks = omega arith in
    let here : slice_get c.loop-place.desks place ≡ Some was = slice_get-get_or c.loop-place.desks place was short ∙ ap Some (sym c.index-desks-place.is) in
    let before = c.loop-place.invariant.rest place was (omega arith) here in
    let (copies, made) = c.requires place was before in
    let taken : was.made ≡ c.take.result = rw c.index-desks-place.is (sym c.take.ensures.made) in
    c.in_default.not-Some made.made (sym taken ∙ made.is)
