-- The numbers that the states have where they were found are translated.
use Rattle.std.proofs.Common.{◌≡◌, ap, sym, ◌∙◌}
use Rattle.std.proofs.lemmas.Result.{IfOk-weaker}
use Rattle.apex_states.specs.Halves.{width_on}
use Rattle.apex_states.specs.Keeping.{AreTranslated}
use Rattle.apex_states.proofs.Numbering.{have_words, AreNumbered-translated}
use Rattle.apex_states.proofs.keeping.number_finds.Goals as goal

pub translate_all-requires-clause-numbers : goal.translate_all-requires-clause-numbers
translate_all-requires-clause-numbers c = rw (c.as_slice.ensures.value) (have_words c.in_ok-known.known.now c.args.finds.now c.in_ok-known.numbers.items c.in_ok-known.ensures.numbers.1)

pub returns-clause-numbers : goal.returns-clause-numbers
returns-clause-numbers c =
    let known = c.in_ok-known.known.now in
    let half = c.args.half.now in
    let new = c.translate_all.new.half in
    let numbers = c.in_ok-known.numbers.items in
    let side : known.side ≡ half.side = c.in_ok-known.ensures.numbers.0 ∙ c.side.ensures in
    let width : known.width ≡ half.width = c.in_ok-known.ensures.width ∙ (ap (λ s. width_on s c.args.finds.now.width) c.side.ensures ∙ sym c.requires.width) in
    let translated = rw (c.as_slice.ensures.value) at c.translate_all.ensures.numbers in
    IfOk-weaker c.translate_all.result (λ among. AreTranslated known new numbers among.items) _
    (λ among are. AreNumbered-translated known half new c.args.finds.now numbers among.items side width c.translate_all.ensures.held c.in_ok-known.ensures.numbers.1 are) translated
