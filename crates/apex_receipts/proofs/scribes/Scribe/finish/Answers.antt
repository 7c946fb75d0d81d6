use Rattle.std.proofs.Common.{◌≡◌, ℕ, List, ◌∙◌, ap, refl, subst, None, arith}
use Rattle.apex_receipts.specs.declared.law.Note.{Note}
use Rattle.apex_receipts.specs.Notes.{IsAlone, entries_of}
use Rattle.std.proofs.lemmas.Grind.{common_steps}
use Rattle.apex_receipts.proofs.Alone.{alone_entries}
use Rattle.apex_receipts.proofs.Written.{entries_silent}
use Rattle.apex_receipts.proofs.scribes.Scribe.finish.Goals as goal

pub returns : goal.returns
returns g c =
    let l = g.P.Naming.scribe in
    let own = c.self.inside.speaker.log in
    let i = c.self.inside.speaker.id in
    let said_it = c.call.ensures.said.1 in
    let seen : c.again.result.log ≡ c.call.new.self.log = ap {B = List Note} (λ s. s.log) c.again.ensures ∙ c.seen-2.ensures.log in
    let alone : IsAlone l own said_it.before = subst (λ (k : ℕ). IsAlone k own said_it.before) c.self.invariant.1 said_it.heard.alone in
    ap (λ (m : List Note). entries_of l m) (seen ∙ said_it.added)
    ∙ (entries_silent l said_it.before (record { by = i; of = i; entry = None; key = c.call.ensures.said.0 }) refl
    ∙ (alone_entries l own said_it.before alone ∙ c.self.view_is))

pub invariant_of-result : goal.invariant_of-result
invariant_of-result g c = grind (arith, common_steps)
