-- The event of the next entry follows those before it.
use Rattle.std.proofs.Common.{List, [], ◌∷◌, ◌++◌, ◌∙◌, ap, sym, append_assoc, map}
use Rattle.std.proofs.lemmas.List.{map-append}
use Rattle.apex_machine.specs.Machine.{event_of}
use Rattle.apex_types.specs.declared.entries.Event.{Event}
use Rattle.apex_dispatch.proofs.events.events_in.Goals as goal

pub loop-entry-preserved : goal.loop-entry-preserved
loop-entry-preserved g c =
    let at = c.loop-entry.invariant in
    let before = c.loop-entry.yielded in
    let entry = c.in-Some.entry in
    record {
      split = at.split ∙ ap (λ l. before ++ l) c.in-Some.ensures.steps ∙ sym (append_assoc before (entry ∷ []) c.next.new.self);
      events = c.in_ok-push.ensures.items ∙ ap (λ (l : List Event). l ++ c.event_of.result ∷ []) at.events
          ∙ ap (λ (e : Event). map event_of before ++ e ∷ []) c.event_of.ensures
          ∙ sym (map-append event_of before (entry ∷ []));
    }
