use Rattle.std.proofs.Common.{ℕ, List, ◌∙◌, subst}
use mathlib.Core.List.{IsPrefix}
use Rattle.apex_types.specs.declared.entries.Entry.{Entry}
use Rattle.apex_receipts.specs.Notes.{IsAlone, entries_of}
use Rattle.apex_receipts.specs.Receipts.{Confirmed, IsAtItsPlace}
use Rattle.apex_receipts.proofs.Alone.{alone_ends, alone_entries}
use Rattle.apex_receipts.proofs.Own.{place_begin}
use Rattle.apex_receipts.proofs.Written.{entries_begin, labelled_alone}
use Rattle.apex_receipts.proofs.scribes.Scribe.shows.Goals as goal

pub invariant_of-self : goal.invariant_of-self
invariant_of-self g c =
    let l = g.P.Naming.scribe in
    let kept = c.self.invariant in
    let own = c.self.inside.speaker.log in
    let log = c.hear.new.self.log in
    let alone : IsAlone l own log = subst (λ (k : ℕ). IsAlone k own log) kept.1 c.hear.ensures.heard.alone in (
      c.hear.ensures.book ∙ kept.0,
      c.hear.ensures.id ∙ kept.1,
      kept.2,
      labelled_alone l g.P.Naming.voice own log alone kept.3,
      alone_ends l own log alone ∙ kept.4,
    )

pub returns-clause-same : goal.returns-clause-same
returns-clause-same g c =
    let l = g.P.Naming.scribe in
    let own = c.self.inside.speaker.log in
    let log = c.hear.new.self.log in
    let alone : IsAlone l own log = subst (λ (k : ℕ). IsAlone k own log) c.self.invariant.1 c.hear.ensures.heard.alone in
    alone_entries l own log alone ∙ c.self.view_is

pub returns-clause-placed : goal.returns-clause-placed
returns-clause-placed g c =
    let l = g.P.Naming.scribe in
    let r = c.receipt.inside in
    let log = c.hear.new.self.log in
    let begins : IsPrefix (entries_of l r.seen.log) c.args.self.now =
    subst (λ (es : List Entry). IsPrefix (entries_of l r.seen.log) es) (returns-clause-same g c)
    (entries_begin l r.seen.log log c.hear.ensures.heard.knew) in
    subst (λ (s : Confirmed). IsAtItsPlace c.args.self.now s.entry s.place) c.receipt.view_is
    (place_begin (entries_of l r.seen.log) c.args.self.now r.entry r.place begins c.receipt.invariant.1)
