-- Words that are compared one after the other.
use Rattle.std.proofs.Common.{◌≤◌, length, slice_index_or, refl, arith}
use Rattle.std.proofs.lemmas.Bool.Decides.{Decides-eqb}
use Rattle.apex_states.proofs.Comparing.{same_words, AreAlike-next}
use Rattle.apex_states.proofs.words.are_same.Goals as goal

pub loop-at-preserved : goal.loop-at-preserved
loop-at-preserved c = AreAlike-next c.args.words.now c.args.others.now c.loop-at.differ c.loop-at.at (slice_index_or c.args.words.now c.loop-at.at 0) (slice_index_or c.args.others.now c.loop-at.at 0) refl refl c.loop-at.invariant

pub returns : goal.returns
returns c =
    let decides = Decides-eqb c.loop-at.differ 0 in
    let past : length c.args.words.now ≤ c.loop-at.at = omega arith in (
      λ none. same_words c.args.words.now c.args.others.now c.requires (λ i below. c.loop-at.invariant.alike (decides.0 none) i (omega (arith, below, past))),
      λ same. decides.1 (c.loop-at.invariant.none same),
    )
