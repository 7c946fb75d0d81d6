use Rattle.std.proofs.Common.{◌≡◌, List, ◌∙◌, sym, ap, subst, arith}
use mathlib.Core.List.{IsPrefix}
use Rattle.logbook.specs.Pages.{Nib, step}
use Rattle.apex_receipts.specs.declared.law.Note.{Note}
use Rattle.apex_receipts.specs.Notes.{key_of}
use Rattle.apex_receipts.specs.Rules.{HasHeard, Speech}
use Rattle.std.proofs.lemmas.Grind.{common_steps}
use Rattle.apex_receipts.proofs.Alone.{alone_key}
use Rattle.apex_receipts.proofs.Steps.{has_heard}
use Rattle.apex_receipts.proofs.speakers.Speaker.hear.Goals as goal

pub returns-clause-heard : goal.returns-clause-heard
returns-clause-heard c =
    let log : c.self.inside.seen.log ≡ c.args.self.now.log = ap (λ (s : Speech). s.log) c.self.view_is in
    let id : c.self.inside.first.value.nib.key ≡ c.args.self.now.id = ap (λ (s : Speech). s.id) c.self.view_is in
    let key : c.self.inside.pen.nib.key ≡ key_of c.args.self.now.id c.args.self.now.log =
    c.self.invariant.2 ∙ (ap (λ k. key_of k c.self.inside.seen.log) id ∙ ap (λ (l : List Note). key_of c.args.self.now.id l) log) in
    let all = c.learn.new.self.log in
    let own : IsPrefix c.args.self.now.log all = subst (λ (l : List Note). IsPrefix l all) (ap {B = List Note} (λ s. s.log) c.again-all.ensures ∙ log) c.learn.ensures.2 in
    has_heard c.args.self.now.log c.args.known.now.log all c.self.inside.pen.nib c.args.self.now.id c.plain-offer.result.state
    (step c.args.head.now.key 0 0 c.plain-offer.result.ask) c.compare_exchange-found.result
    (c.compare_exchange-found.new.seen.log, (c.compare_exchange-found.new.pen.nib, c.compare_exchange-found.new.offer.state))
    key own c.learn.ensures.3 c.compare_exchange-found.ensures.6 c.compare_exchange-found.ensures.7

pub invariant_of-self : goal.invariant_of-self
invariant_of-self c =
    let e = c.compare_exchange-found.ensures in
    let told = e.7 in
    let log : c.self.inside.seen.log ≡ c.args.self.now.log = ap (λ (s : Speech). s.log) c.self.view_is in
    let id : c.self.inside.first.value.nib.key ≡ c.args.self.now.id = ap (λ (s : Speech). s.id) c.self.view_is in
    let same : c.compare_exchange-found.new.pen.nib ≡ c.self.inside.pen.nib = told.same in
    let heard : HasHeard c.args.self.now.log c.args.known.now.log c.compare_exchange-found.new.seen.log c.args.self.now.id = returns-clause-heard c in
    let key = alone_key c.args.self.now.id c.args.self.now.log c.compare_exchange-found.new.seen.log heard.alone in
    let back = ap (λ s. s.book) c.again-all.ensures in (
      e.5 ∙ (c.self.invariant.0 ∙ (sym back ∙ (sym c.learn.ensures.0 ∙ sym e.0))),
      ap (λ (p : Nib). p.right) same ∙ c.self.invariant.1,
      ap (λ (p : Nib). p.key) same
          ∙ (c.self.invariant.2
          ∙ (ap (λ (l : List Note). key_of c.self.inside.first.value.nib.key l) log
          ∙ (ap (λ k. key_of k c.args.self.now.log) id
          ∙ (sym key ∙ ap (λ k. key_of k c.compare_exchange-found.new.seen.log) (sym id))))),
    )

pub compare_exchange-found-requires : goal.compare_exchange-found-requires
compare_exchange-found-requires c = grind (arith, common_steps)
