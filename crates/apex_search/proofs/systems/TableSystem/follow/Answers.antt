use Rattle.std.proofs.Common.{slice_index, sym, arith}
use Rattle.std.proofs.lemmas.Grind.{common_steps}
use Rattle.apex_choices.specs.Counts.{paced_in}
use Rattle.apex_search.specs.Steps.{Searched}
use Rattle.apex_search.proofs.Along.{IsAlong, along_begins, along_more, along_stops, form_after}
use Rattle.apex_choices.proofs.Same.{paced_then}
use Rattle.apex_recall.proofs.SameForms.{same_canonical_paced}
use Rattle.apex_search.proofs.Stepping.{here_can, here_counts, here_time, made_fit}
use Rattle.apex_search.proofs.systems.TableSystem.follow.Goals as goal

pub loop-choice-init : goal.loop-choice-init
loop-choice-init c =
    let s = c.self.inside in
    let system : Searched = record { table = s.table; pace = s.pace; question = s.question } in
    rw (← c.self.view_is, c.in_ok-events.ensures.items) (along_begins system c.self.invariant.0 c.lawful.ensures c.self.invariant.1
    c.forms_stand_for_situations.ensures c.args.path.now (paced_in c.canonical_form-paced.result)
    (paced_then c.canonical_form-paced.ensures (same_canonical_paced c.in_ok-opening.ensures s.pace)))

pub event-requires : goal.event-requires
event-requires c =
    let s = c.self.inside in
    let system : Searched = record { table = s.table; pace = s.pace; question = s.question } in
    let along : IsAlong system c.args.path.now (paced_in c.loop-choice.paced) c.loop-choice.events.items c.loop-choice.choice-index =
    rw (← c.self.view_is) at c.loop-choice.invariant in
    here_time s.pace c.self.invariant.0 c.turns_are_few.ensures s.table c.lawful.ensures c.self.invariant.1 c.forms_are_ready.ensures
    (paced_in c.loop-choice.paced) along.formed

pub returns-in_default-clause-events : goal.returns-in_default-clause-events
returns-in_default-clause-events c =
    let s = c.self.inside in
    let system : Searched = record { table = s.table; pace = s.pace; question = s.question } in
    let along : IsAlong system c.args.path.now (paced_in c.loop-choice.paced) c.loop-choice.events.items c.loop-choice.choice-index =
    rw (← c.self.view_is) at c.loop-choice.invariant in
    rw (← c.self.view_is) (along_stops system c.self.invariant.0 c.lawful.ensures c.self.invariant.1 c.forms_stand_for_situations.ensures c.args.path.now
    (paced_in c.loop-choice.paced) c.loop-choice.events.items c.loop-choice.choice-index along c.loop-choice-test.true c.in_default.ensures.value)

pub make-requires-clause-can : goal.make-requires-clause-can
make-requires-clause-can c =
    let s = c.self.inside in
    let system : Searched = record { table = s.table; pace = s.pace; question = s.question } in
    let along : IsAlong system c.args.path.now (paced_in c.loop-choice.paced) c.loop-choice.events.items c.loop-choice.choice-index =
    rw (← c.self.view_is) at c.loop-choice.invariant in
    here_can s.pace c.self.invariant.0 c.turns_are_few.ensures s.table c.lawful.ensures c.self.invariant.1 c.forms_are_ready.ensures
    (paced_in c.loop-choice.paced) along.formed

pub make-requires-clause-counts : goal.make-requires-clause-counts
make-requires-clause-counts c =
    let s = c.self.inside in
    let system : Searched = record { table = s.table; pace = s.pace; question = s.question } in
    let along : IsAlong system c.args.path.now (paced_in c.loop-choice.paced) c.loop-choice.events.items c.loop-choice.choice-index =
    rw (← c.self.view_is) at c.loop-choice.invariant in
    here_counts s.pace c.self.invariant.0 c.turns_are_few.ensures s.table c.lawful.ensures c.self.invariant.1 c.forms_are_ready.ensures
    (paced_in c.loop-choice.paced) along.formed c.in-Some.event c.in-Some.ensures.range

pub canonical_form-paced-requires-in-loop-choice : goal.canonical_form-paced-requires-in-loop-choice
canonical_form-paced-requires-in-loop-choice c =
    let s = c.self.inside in
    let system : Searched = record { table = s.table; pace = s.pace; question = s.question } in
    let along : IsAlong system c.args.path.now (paced_in c.loop-choice.paced) c.loop-choice.events.items c.loop-choice.choice-index =
    rw (← c.self.view_is) at c.loop-choice.invariant in
    made_fit s.pace c.self.invariant.0 c.turns_are_few.ensures s.table c.lawful.ensures c.self.invariant.1 c.forms_are_ready.ensures
    (paced_in c.loop-choice.paced) along.formed (slice_index c.args.path.now c.loop-choice.choice-index) c.in-Some.event (sym c.in-Some.ensures.value) (paced_in c.make.new.paced) c.make.ensures.step

pub loop-choice-preserved : goal.loop-choice-preserved
loop-choice-preserved c =
    let s = c.self.inside in
    let system : Searched = record { table = s.table; pace = s.pace; question = s.question } in
    let along : IsAlong system c.args.path.now (paced_in c.loop-choice.paced) c.loop-choice.events.items c.loop-choice.choice-index =
    rw (← c.self.view_is) at c.loop-choice.invariant in
    rw (← c.self.view_is, c.in_ok-push.ensures.items) (along_more system c.self.invariant.0 c.lawful.ensures c.self.invariant.1 c.forms_stand_for_situations.ensures c.args.path.now
    (paced_in c.loop-choice.paced) c.loop-choice.events.items c.loop-choice.choice-index along
    c.turns_are_few.ensures c.forms_are_ready.ensures c.loop-choice-test.true c.in-Some.event c.in-Some.ensures.value c.in-Some.ensures.range
    (paced_in c.make.new.paced) c.make.ensures.step (paced_in c.canonical_form-paced-in-loop-choice.result) c.canonical_form-paced-in-loop-choice.ensures)

pub returns-in_default-clause-form : goal.returns-in_default-clause-form
returns-in_default-clause-form c = form_after c.args.self.now c.args.path.now (paced_in c.loop-choice.paced) c.loop-choice.events.items c.loop-choice.choice-index c.loop-choice.invariant

pub returns-clause-form : goal.returns-clause-form
returns-clause-form c = form_after c.args.self.now c.args.path.now (paced_in c.loop-choice.paced) c.loop-choice.events.items c.loop-choice.choice-index c.loop-choice.invariant

pub returns-clause-events : goal.returns-clause-events
returns-clause-events c = grind (arith, common_steps)
