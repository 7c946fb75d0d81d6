use Rattle.std.proofs.Common.{◌≡◌, List, [], ◌∷◌, ◌++◌, ◌∙◌, refl, sym, ap}
use Rattle.apex_receipts.specs.declared.law.Note.{Note}
use Rattle.apex_receipts.specs.Notes.{key_of}
use Rattle.apex_receipts.specs.Rules.{Speech}
use Rattle.logbook.specs.Pages.{step}
use Rattle.apex_receipts.proofs.Steps.{has_said, key_snoc, says_moves}
use Rattle.apex_receipts.proofs.speakers.Speaker.say.Goals as goal

pub compare_exchange-found-requires : goal.compare_exchange-found-requires
compare_exchange-found-requires c =
    let h = c.requires.head in
    let log : c.self.inside.seen.log ≡ c.args.self.now.log = ap (λ (s : Speech). s.log) c.self.view_is in
    let book : c.self.inside.seen.book ≡ c.args.self.now.book = ap (λ (s : Speech). s.book) c.self.view_is in
    let id : c.self.inside.first.value.nib.key ≡ c.args.self.now.id = ap (λ (s : Speech). s.id) c.self.view_is in
    let key : c.self.inside.pen.nib.key ≡ key_of c.args.offer.ask.by c.args.self.now.log =
    c.self.invariant.2 ∙ (ap (λ k. key_of k c.self.inside.seen.log) (id ∙ sym c.requires.own) ∙ ap (λ (l : List Note). key_of c.args.offer.ask.by l) log) in (
      ap (λ w. w.tracked) h,
      c.requires.books.0 ∙ sym (ap (λ w. w.book) h),
      c.self.invariant.0 ∙ (book ∙ sym (ap (λ w. w.book) h)),
      c.requires.offer.0,
      rw (ap (λ w. w.key) h, c.requires.offer.1)
          (says_moves c.args.self.now.log c.args.all.log c.self.inside.pen.nib c.args.offer.ask c.self.invariant.1 key c.requires.begins c.requires.may),
    )

pub invariant_of-self : goal.invariant_of-self
invariant_of-self c =
    let told = c.compare_exchange-found.ensures.7 in
    let h = c.requires.head in
    let id : c.self.inside.first.value.nib.key ≡ c.args.self.now.id = ap (λ (s : Speech). s.id) c.self.view_is in
    let added : c.compare_exchange-found.new.seen.log ≡ told.before ++ c.args.offer.ask ∷ [] = told.added in (
      c.requires.books.1 ∙ (sym c.requires.books.0 ∙ sym c.compare_exchange-found.ensures.0),
      c.requires.next.0,
      sym c.requires.next.1
          ∙ (sym (key_snoc c.self.inside.first.value.nib.key told.before c.args.offer.ask (c.requires.own ∙ sym id))
          ∙ ap (λ (l : List Note). key_of c.self.inside.first.value.nib.key l) (sym added)),
    )

pub returns-clause-said : goal.returns-clause-said
returns-clause-said c =
    let log : c.self.inside.seen.log ≡ c.args.self.now.log = ap (λ (s : Speech). s.log) c.self.view_is in
    let id : c.self.inside.first.value.nib.key ≡ c.args.self.now.id = ap (λ (s : Speech). s.id) c.self.view_is in
    let key : c.self.inside.pen.nib.key ≡ key_of c.args.offer.ask.by c.args.self.now.log =
    c.self.invariant.2 ∙ (ap (λ k. key_of k c.self.inside.seen.log) (id ∙ sym c.requires.own) ∙ ap (λ (l : List Note). key_of c.args.offer.ask.by l) log) in
    has_said c.args.self.now.log c.args.all.log c.self.inside.pen.nib c.args.offer.state
    (step c.args.head.now.key 0 0 c.args.offer.ask) c.args.offer.ask c.compare_exchange-found.result
    (c.compare_exchange-found.new.seen.log, (c.compare_exchange-found.new.pen.nib, c.compare_exchange-found.new.offer.state))
    refl key c.requires.begins c.compare_exchange-found.ensures.7
