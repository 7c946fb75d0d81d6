-- Expansions that are numbered, one after the other.
use Rattle.std.proofs.Common.{◌≡◌, ◌+◌, ◌<◌, List, [], ◌∷◌, ◌++◌, length, take, sym, ap, ◌∙◌, subst, arith, get_or}
use Rattle.std.proofs.Math.Seq.{take-length}
use Rattle.std.proofs.lemmas.List.{take_more}
use Rattle.std.proofs.lemmas.Option.{slice_get-get_or}
use Rattle.apex_states.specs.declared.expansions.Expansion.{Expansion}
use Rattle.apex_states.specs.Keeping.{AreAllNumbered}
use Rattle.apex_states.proofs.Halving.{StillHas-trans}
use Rattle.apex_states.proofs.Numbering.{AreAllNumbered-next}
use Rattle.apex_states.proofs.keeping.number_all.Goals as goal

pub number_finds-requires-clause-width : goal.number_finds-requires-clause-width
number_finds-requires-clause-width c =
    let expansion = get_or c.args.expansions.now c.loop-place.place c.index-expansions-place.result in
    let short : c.loop-place.place < length c.args.expansions.now = omega arith in
    let here = slice_get-get_or c.args.expansions.now c.loop-place.place c.index-expansions-place.result short in
    let has = c.loop-place.invariant.has in
    rw (has.side, has.width) (c.requires.each c.loop-place.place expansion here)

pub loop-place-preserved : goal.loop-place-preserved
loop-place-preserved c =
    let expansions = c.args.expansions.now in
    let place = c.loop-place.place in
    let expansion = get_or expansions place c.index-expansions-place.result in
    let so_far = c.loop-place.invariant in
    let new = c.number_finds.new.half in
    let short : place < length expansions = omega arith in
    let next : take (place + 1) expansions ≡ take place expansions ++ expansion ∷ [] = take_more expansions place c.index-expansions-place.result short in
    let more = c.in_ok-more.more.items in
    let numbered = AreAllNumbered-next c.loop-place.half new (take place expansions) expansion c.loop-place.numbers.items more c.number_finds.ensures.held so_far.numbered c.in_ok-more.ensures.numbers in
    let Numbered : List Expansion → Type 0 = λ es. AreAllNumbered new es (c.loop-place.numbers.items ++ more) in
    rw (c.in_ok-extend_from_slice.ensures.items, c.as_slice.ensures.value) (record {
      is_half = c.number_finds.ensures.half;
      has = StillHas-trans c.args.half.now c.loop-place.half new so_far.has c.number_finds.ensures.held;
      numbered = subst Numbered (sym next) numbered;
    })

pub returns-clause-numbers : goal.returns-clause-numbers
returns-clause-numbers c =
    let expansions = c.args.expansions.now in
    let last : c.loop-place.place ≡ length expansions = omega arith in
    let all : take c.loop-place.place expansions ≡ expansions = ap (λ n. take n expansions) last ∙ take-length expansions in
    rw all at c.loop-place.invariant.numbered
