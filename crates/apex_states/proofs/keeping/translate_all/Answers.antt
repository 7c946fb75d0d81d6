-- Numbers that are translated, one after the other.
use Rattle.std.proofs.Common.{rules, ◌≡◌, ◌<◌, None, length, replicate, get_or, refl, ◌∙◌, arith}
use Rattle.std.proofs.lemmas.Option.{slice_get-get_or}
use Rattle.apex_states.proofs.Halving.{StillHas-trans}
use Rattle.apex_states.proofs.Numbering.{all_none, ArePartsFound-none, IsTranslating-next, IsTranslating-none}
use Rattle.apex_states.proofs.keeping.translate_all.Goals as goal

pub loop-place-init : goal.loop-place-init
loop-place-init c =
    let items : c.in_ok-found.found.items ≡ replicate c.count.result None = search rules in
    let vacant : c.as_mut_slice-found.result.now ≡ replicate c.count.result None = c.as_mut_slice-found.ensures.value ∙ items in
    let part_items : c.in_ok-parts.parts.items ≡ replicate c.part_count.result None = search rules in
    let no_parts : c.as_mut_slice-parts.result.now ≡ replicate c.part_count.result None = c.as_mut_slice-parts.ensures.value ∙ part_items in
    record {
      translating = IsTranslating-none c.args.known.now c.args.half.now c.args.numbers.now c.in_ok-among.among.items c.as_mut_slice-found.result.now c.requires.half c.in_ok-among.ensures.items
          (λ number x there. all_none c.count.result number x (rw vacant at there));
      slots = refl;
      parts = ArePartsFound-none c.args.known.now.nodes c.args.half.now.nodes c.as_mut_slice-parts.result.now
          (λ number x there. all_none c.part_count.result number x (rw no_parts at there));
      part_slots = omega (arith, c.as_mut_slice-parts.ensures.len, c.in_ok-parts.ensures.len, c.part_count.ensures);
    }

pub translate-requires-clause-number : goal.translate-requires-clause-number
translate-requires-clause-number c =
    let short : c.loop-place.place < length c.args.numbers.now = omega arith in
    c.requires.numbers c.loop-place.place (get_or c.args.numbers.now c.loop-place.place 0) (slice_get-get_or c.args.numbers.now c.loop-place.place 0 short)

pub translate-requires-clause-slot : goal.translate-requires-clause-slot
translate-requires-clause-slot c =
    let short : c.loop-place.place < length c.args.numbers.now = omega arith in
    let (k, is) = c.requires.numbers c.loop-place.place (get_or c.args.numbers.now c.loop-place.place 0) (slice_get-get_or c.args.numbers.now c.loop-place.place 0 short) in
    let below = c.count.ensures (get_or c.args.numbers.now c.loop-place.place 0) k is in
    omega (arith, below, c.loop-place.invariant.slots, c.as_mut_slice-found.ensures.len, c.in_ok-found.ensures.len)

pub loop-place-preserved : goal.loop-place-preserved
loop-place-preserved c =
    let place = c.loop-place.place in
    let short : place < length c.args.numbers.now = omega arith in
    let number = get_or c.args.numbers.now place 0 in
    let so_far = c.loop-place.invariant in
    rw (c.in_ok-push.ensures.items) (record {
      translating = IsTranslating-next c.args.known.now c.args.half.now c.loop-place.half c.translate.new.half c.args.numbers.now c.loop-place.among.items c.loop-place.found c.translate.new.found place number c.in_ok-translate.field-0
          (slice_get-get_or c.args.numbers.now place 0 short) c.translate.ensures.held c.translate.ensures.half c.in_ok-translate.ensures.found c.in_ok-translate.ensures.number so_far.translating;
      slots = c.translate.ensures.slots ∙ so_far.slots;
      parts = c.in_ok-translate.ensures.parts;
      part_slots = c.translate.ensures.part_slots ∙ so_far.part_slots;
    })

pub returns-in_err-push-clause-held : goal.returns-in_err-push-clause-held
returns-in_err-push-clause-held c = StillHas-trans c.args.half.now c.loop-place.half c.translate.new.half c.loop-place.invariant.translating.has c.translate.ensures.held
