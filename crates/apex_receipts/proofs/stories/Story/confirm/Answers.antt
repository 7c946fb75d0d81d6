use Rattle.std.proofs.Common.{List, ap, subst}
use mathlib.Core.List.{IsPrefix}
use Rattle.apex_types.specs.declared.entries.Entry.{Entry}
use Rattle.apex_receipts.specs.declared.law.Note.{Note}
use Rattle.apex_receipts.specs.Notes.{entries_of}
use Rattle.apex_receipts.specs.Receipts.{Confirmed, IsAtItsPlace}
use Rattle.apex_receipts.proofs.Own.{place_begin}
use Rattle.apex_receipts.proofs.Written.{unended_begins}
use Rattle.apex_receipts.proofs.stories.Story.confirm.Goals as goal

pub returns : goal.returns
returns g c =
    let l = g.P.Naming.scribe in
    let r = c.receipt.inside in
    let log = c.self.inside.seen.log in
    let all = c.learn.new.self.log in
    let own : IsPrefix log all = subst (λ (m : List Note). IsPrefix m all) (ap {B = List Note} (λ s. s.log) c.again-all.ensures) c.learn.ensures.2 in
    let begins : IsPrefix (entries_of l r.seen.log) c.args.self.now =
    subst (λ (es : List Entry). IsPrefix (entries_of l r.seen.log) es) c.self.view_is
    (unended_begins l r.seen.log log all c.learn.ensures.3 own c.receipt.invariant.2 c.self.invariant.1) in
    subst (λ (s : Confirmed). IsAtItsPlace c.args.self.now s.entry s.place) c.receipt.view_is
    (place_begin (entries_of l r.seen.log) c.args.self.now r.entry r.place begins c.receipt.invariant.1)
