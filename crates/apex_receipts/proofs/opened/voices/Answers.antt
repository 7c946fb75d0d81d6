use Rattle.std.proofs.Common.{◌≡◌, ℕ, List, [], ◌∷◌, ◌++◌, ◌∙◌, append_assoc, ap, sym, length-append, arith}
use Rattle.std.proofs.lemmas.List.FromFn.{map-range_with_len_more}
use Rattle.std.specs.Vec.Iter.{into_iter_items}
use Rattle.apex_types.specs.declared.entries.Who.TheVariants.{Core}
use Rattle.apex_receipts.specs.Receipts.{Spoken, unspoken}
use Rattle.std.proofs.lemmas.Grind.{common_steps, moves}
use Rattle.apex_receipts.proofs.opened.voices.Goals as goal

pub loop-speaker-preserved : goal.loop-speaker-preserved
loop-speaker-preserved g c =
    let at = c.loop-speaker in
    let x = c.in-Some.speaker in
    let value = c.new-in-loop-speaker.result in
    let steps : into_iter_items at.speaker-iterator ≡ x ∷ into_iter_items c.next.new.self = c.in-Some.ensures.steps.0 in
    let silent : value ≡ unspoken (Core at.number) = c.new-in-loop-speaker.ensures ∙ ap (λ (k : ℕ). unspoken (Core k)) c.new.ensures in
    let pushed : c.push.new.self.items ≡ at.voices.items ++ value ∷ [] = c.in_ok-push.ensures.items in
    record {
      parts = append_assoc at.yielded (x ∷ []) _ ∙ rw (← steps) at.invariant.parts;
      number = omega (arith, at.invariant.number, length-append at.yielded (x ∷ []));
      voices =
          pushed
          ∙ (ap (λ (v : Spoken). at.voices.items ++ v ∷ []) silent
          ∙ (ap (λ (vs : List Spoken). vs ++ unspoken (Core at.number) ∷ []) at.invariant.voices
          ∙ sym (map-range_with_len_more (λ (core : ℕ). unspoken (Core core)) 0 at.number at.number (omega arith))));
    }

pub new-requires : goal.new-requires
new-requires g c = grind (arith, common_steps)

pub new-requires-in-loop-speaker-clause-books : goal.new-requires-in-loop-speaker-clause-books
new-requires-in-loop-speaker-clause-books g c = grind (arith, moves)

pub new-requires-in-loop-speaker-clause-id : goal.new-requires-in-loop-speaker-clause-id
new-requires-in-loop-speaker-clause-id g c = grind (arith, common_steps)

pub new-requires-in-loop-speaker-clause-empty : goal.new-requires-in-loop-speaker-clause-empty
new-requires-in-loop-speaker-clause-empty g c = grind (arith, moves)

pub returns : goal.returns
returns g c = grind (arith, common_steps)
