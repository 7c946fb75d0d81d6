use Rattle.std.proofs.Common.{◌≡◌, ℕ, List, ◌∙◌, ap, subst, Some}
use mathlib.Core.List.{IsPrefix}
use Rattle.apex_receipts.specs.declared.law.Note.{Note}
use Rattle.apex_receipts.specs.Rules.{Speech}
use Rattle.apex_receipts.proofs.Steps.{has_said_less, may_write_for}
use Rattle.apex_receipts.proofs.speakers.Speaker.write.Goals as goal

pub say-requires-clause-may : goal.say-requires-clause-may
say-requires-clause-may c =
    let id : c.self.inside.first.value.nib.key ≡ c.args.self.now.id = ap (λ (s : Speech). s.id) c.self.view_is in
    let other : c.other.inside.first.value.nib.key ≡ c.args.other.now.id = ap (λ (s : Speech). s.id) c.other.view_is in
    let log : c.other.inside.seen.log ≡ c.args.other.now.log = ap (λ (s : Speech). s.log) c.other.view_is in
    let ask = c.plain-offer.ensures.1 in
    let begins : IsPrefix c.args.other.now.log c.learn.new.self.log = subst (λ (l : List Note). IsPrefix l c.learn.new.self.log) log c.learn.ensures.3 in
    may_write_for c.args.self.now.log c.args.other.now.log c.learn.new.self.log c.args.self.now.id c.args.other.now.id c.plain-offer.result.ask
    (ap (λ (n : Note). n.by) ask ∙ id) (ap (λ (n : Note). n.of) ask ∙ other) begins c.requires.called

pub returns-clause-said : goal.returns-clause-said
returns-clause-said c =
    let id : c.self.inside.first.value.nib.key ≡ c.args.self.now.id = ap (λ (s : Speech). s.id) c.self.view_is in
    let other : c.other.inside.first.value.nib.key ≡ c.args.other.now.id = ap (λ (s : Speech). s.id) c.other.view_is in
    let log : c.other.inside.seen.log ≡ c.args.other.now.log = ap (λ (s : Speech). s.log) c.other.view_is in
    let ask = c.plain-offer.ensures.1 in
    let begins : IsPrefix c.args.other.now.log c.learn.new.self.log = subst (λ (l : List Note). IsPrefix l c.learn.new.self.log) log c.learn.ensures.3 in
    let key = c.take_pen-next.result.nib.key in
    let same : c.plain-offer.result.ask ≡ record { by = c.args.self.now.id; of = c.args.other.now.id; entry = Some c.args.entry.now; key = key } =
    ask
    ∙ (ap (λ (l : ℕ). record { by = l; of = c.other.inside.first.value.nib.key; entry = Some c.args.entry.now; key = key }) id
    ∙ ap (λ (o : ℕ). record { by = c.args.self.now.id; of = o; entry = Some c.args.entry.now; key = key }) other) in (
      key,
      has_said_less c.args.self.now.log c.args.other.now.log c.learn.new.self.log c.plain-offer.result.ask
          (record { by = c.args.self.now.id; of = c.args.other.now.id; entry = Some c.args.entry.now; key = key })
          c.say.new.self.log begins same c.say.ensures.said,
    )
