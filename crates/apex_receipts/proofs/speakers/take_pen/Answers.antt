use Rattle.std.proofs.Common.{◌∙◌, sym, ap}
use Rattle.apex_receipts.proofs.Steps.{takes_moves}
use Rattle.apex_receipts.proofs.speakers.take_pen.Goals as goal

pub compare_exchange-found-requires : goal.compare_exchange-found-requires
compare_exchange-found-requires c =
    let h = c.requires in
    let again = c.again-known.ensures in
    let pen = c.no_pen-pen.ensures in
    let offer = c.plain-offer.ensures in (
      ap (λ w. w.tracked) h,
      ap (λ s. s.book) again ∙ sym (ap (λ w. w.book) h),
      pen.0 ∙ (ap (λ s. s.book) again ∙ sym (ap (λ w. w.book) h)),
      offer.0,
      rw (ap (λ w. w.key) h, pen.1, offer.3) (takes_moves c.again-known.result.log c.plain-offer.result.ask),
    )
