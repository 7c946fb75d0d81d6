-- The words of a half are put before the rest, and numbered.
use Rattle.std.proofs.Common.{refl, ◌∙◌, arith}
use Rattle.std.proofs.lemmas.Result.{IfOk-weaker}
use Rattle.apex_states.specs.declared.halves.TheConstants.{DEPTH}
use Rattle.apex_states.specs.Halves.{part_of}
use Rattle.apex_states.specs.Nodes.{IsTree}
use Rattle.std.proofs.lemmas.Grind.{common_steps}
use Rattle.apex_states.proofs.Halving.{fronted_back, part_long, IsHalf-on, IsNumber-put}
use Rattle.apex_states.proofs.halves.Half.number.Goals as goal

pub returns-clause-number : goal.returns-clause-number
returns-clause-number c =
    let half = c.args.self.now in
    let k = part_of half.side half.width c.args.state.now in
    let long = part_long half.side half.width c.args.state.now c.requires.state in
    let put = rw c.part.ensures at c.put_front.ensures in
    let split = fronted_back half.width half.words.len half.words.items c.as_mut_slice.result.now k c.put_front.new.words long c.requires.half.wide c.as_mut_slice.ensures.len c.as_mut_slice.ensures.value put in
    IfOk-weaker c.number_like.result (λ n. IsTree c.number_like.new.self DEPTH n c.as_slice-words.result.now) _ (λ n tree. IsNumber-put half _ n k c.as_slice-words.result.now long refl (c.as_slice-words.ensures.value ∙ split.2) split.1 tree) c.number_like.ensures.number

pub returns-clause-half : goal.returns-clause-half
returns-clause-half c =
    let half = c.args.self.now in
    let k = part_of half.side half.width c.args.state.now in
    let long = part_long half.side half.width c.args.state.now c.requires.state in
    let put = rw c.part.ensures at c.put_front.ensures in
    let split = fronted_back half.width half.words.len half.words.items c.as_mut_slice.result.now k c.put_front.new.words long c.requires.half.wide c.as_mut_slice.ensures.len c.as_mut_slice.ensures.value put in
    IsHalf-on half _ c.requires.half c.number_like.ensures.held c.number_like.ensures.exact refl split.0 split.1 refl refl

pub put_front-requires : goal.put_front-requires
put_front-requires c = grind (arith, common_steps)

pub returns-clause-held : goal.returns-clause-held
returns-clause-held c = grind (arith, common_steps)
