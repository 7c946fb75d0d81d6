use Rattle.std.proofs.Common.{◌≡◌, ◌+◌, [], ◌∷◌, length, ◌∙◌, ap, length-append}
use Rattle.apex_receipts.specs.Receipts.{Spoken}
use Rattle.apex_receipts.proofs.scribes.Scribe.record.Goals as goal

pub invariant_of-result : goal.invariant_of-result
invariant_of-result g c =
    let wrote = c.write_down-seen.ensures in
    let place : c.count.result ≡ length c.args.voice.now.own + 1 =
    c.count.ensures ∙ (ap (λ (s : Spoken). length s.own) wrote.voice ∙ length-append c.args.voice.now.own (c.args.entry.now ∷ [])) in
    (wrote.book, rw (c.kept.ensures, place) wrote.placed, wrote.unended)
