-- The origins of expansions, one after the other.
use Rattle.std.proofs.Common.{◌≡◌, ◌+◌, ◌<◌, [], ◌∷◌, ◌++◌, length, length-append, take, sym, ap, ◌∙◌, arith, get_or}
use Rattle.std.proofs.lemmas.List.{flat_map_more, take_more}
use Rattle.apex_states.specs.declared.expansions.Expansion.{Expansion}
use Rattle.apex_states.specs.Expansions.{origins_of, states_of}
use Rattle.apex_states.proofs.keeping.gather_origins.Goals as goal

pub loop-place-preserved : goal.loop-place-preserved
loop-place-preserved c =
    let expansions = c.args.expansions.now in
    let place = c.loop-place.place in
    let before = take place expansions in
    let expansion = get_or expansions place c.index-expansions-place.result in
    let so_far = c.loop-place.invariant in
    let short : place < length expansions = omega arith in
    let next : take (place + 1) expansions ≡ before ++ expansion ∷ [] = take_more expansions place c.index-expansions-place.result short in
    let states : states_of before ++ expansion.finds.states ≡ states_of (take (place + 1) expansions) = flat_map_more (λ (e : Expansion). e.finds.states) [] before expansion ∙ sym (ap states_of next) in
    let origins : origins_of before ++ expansion.finds.origins ≡ origins_of (take (place + 1) expansions) = flat_map_more (λ (e : Expansion). e.finds.origins) [] before expansion ∙ sym (ap origins_of next) in
    rw (c.in_ok-extend_from_slice.ensures.items, c.origins.ensures.origins) (record {
      origins = ap (λ os. os ++ expansion.finds.origins) so_far.origins ∙ origins;
      paired = omega (arith, length-append c.loop-place.origins.items expansion.finds.origins, length-append (states_of before) expansion.finds.states, ap length states, so_far.paired, c.origins.ensures.paired);
    })
