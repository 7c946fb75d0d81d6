use Rattle.std.proofs.Common.{◌≡◌, ◌+◌, [], ◌∷◌, length, ◌∙◌, ap, length-append}
use Rattle.apex_receipts.specs.Receipts.{Spoken}
use Rattle.apex_receipts.proofs.scribes.Scribe.record_into.Goals as goal

pub invariant_of-receipt : goal.invariant_of-receipt
invariant_of-receipt g c =
    let wrote = c.write_down.ensures in
    let place : c.count-receipt-inside.result ≡ length c.args.voice.now.own + 1 =
    c.count-receipt-inside.ensures ∙ (ap (λ (s : Spoken). length s.own) wrote.voice ∙ length-append c.args.voice.now.own (c.args.entry.now ∷ [])) in
    (wrote.book, rw (c.keep_in.ensures, place) wrote.placed, wrote.unended)
