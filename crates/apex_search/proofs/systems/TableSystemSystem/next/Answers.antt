use Rattle.std.proofs.Common.{◌≡◌, ◌∙◌, Some, None}
use Rattle.apex_choices.specs.Counts.{IsSamePaced, StoredPaced, paced_in}
use Rattle.apex_recall.specs.Restored.{paced_from}
use Rattle.apex_recall.specs.Formed.{IsForm}
use Rattle.apex_search.specs.Steps.{IsIn, Searched}
use Rattle.apex_choices.specs.Choices.{event_of}
use Rattle.apex_search.proofs.FormRestored.{copied_chosen, here_formed, of_here, same_made, step_from, step_refused}
use Rattle.apex_search.proofs.Stepping.{here_time}
use Rattle.apex_search.proofs.systems.TableSystemSystem.next.Goals as goal

pub event-requires : goal.event-requires
event-requires c =
    let s = c.self.inside in
    let state : IsForm s.pace s.table c.args.state.now = rw (← c.self.view_is) at c.requires.state in
    let inside : IsIn s.table c.args.workplace.now c.args.state.now = rw (← c.self.view_is) at c.requires.inside in
    let formed = here_formed s.pace c.self.invariant.0 c.turns_are_few.ensures s.table c.lawful.ensures c.args.state.now state
    c.words_are_exact.ensures (paced_in inside.here) inside.same in
    record {
      here = inside.here;
      is_here = inside.is_here;
      time = here_time s.pace c.self.invariant.0 c.turns_are_few.ensures s.table c.lawful.ensures c.self.invariant.1 c.forms_are_ready.ensures
          (paced_in inside.here) formed;
    }

pub returns-in_default-clause-step : goal.returns-in_default-clause-step
returns-in_default-clause-step c =
    let s = c.self.inside in
    let system : Searched = record { table = s.table; pace = s.pace; question = s.question } in
    let inside : IsIn s.table c.args.workplace.now c.args.state.now = rw (← c.self.view_is) at c.requires.inside in
    let none = of_here c.args.workplace.now.here inside.here
    (λ (p : StoredPaced). None ≡ event_of s.pace s.table (paced_in p) c.args.choice) inside.is_here c.in_default.ensures.event in
    rw (← c.self.view_is) (step_refused system (paced_in inside.here) c.args.state.now c.args.next.now c.args.choice inside.same none)

pub step-requires-clause-form : goal.step-requires-clause-form
step-requires-clause-form c =
    let s = c.self.inside in
    let state : IsForm s.pace s.table c.args.state.now = rw (← c.self.view_is) at c.requires.state in
    let copied : IsSamePaced (paced_in c.in-Some-made.paced) (paced_from s.table c.args.state.now) =
    same_made s.table c.args.state.now c.copy.new.self c.in-Some-made.paced c.copy.ensures.copied c.in-Some-made.is in
    here_formed s.pace c.self.invariant.0 c.turns_are_few.ensures s.table c.lawful.ensures c.args.state.now state
    c.words_are_exact.ensures (paced_in c.in-Some-made.paced) copied

pub step-requires-clause-event : goal.step-requires-clause-event
step-requires-clause-event c =
    let s = c.self.inside in
    let inside : IsIn s.table c.args.workplace.now c.args.state.now = rw (← c.self.view_is) at c.requires.inside in
    let found = of_here c.args.workplace.now.here inside.here
    (λ (p : StoredPaced). Some c.in-Some.event ≡ event_of s.pace s.table (paced_in p) c.args.choice) inside.is_here c.in-Some.ensures.event in
    let copied : IsSamePaced (paced_in c.in-Some-made.paced) (paced_from s.table c.args.state.now) =
    same_made s.table c.args.state.now c.copy.new.self c.in-Some-made.paced c.copy.ensures.copied c.in-Some-made.is in
    copied_chosen s.pace s.table c.args.state.now (paced_in inside.here) (paced_in c.in-Some-made.paced) c.args.choice c.in-Some.event
    inside.same copied found c.in-Some.ensures.range

pub returns-clause-step : goal.returns-clause-step
returns-clause-step c =
    let s = c.self.inside in
    let system : Searched = record { table = s.table; pace = s.pace; question = s.question } in
    let inside : IsIn s.table c.args.workplace.now c.args.state.now = rw (← c.self.view_is) at c.requires.inside in
    let found = of_here c.args.workplace.now.here inside.here
    (λ (p : StoredPaced). Some c.in-Some.event ≡ event_of s.pace s.table (paced_in p) c.args.choice) inside.is_here c.in-Some.ensures.event in
    let copied : IsSamePaced (paced_in c.in-Some-made.paced) (paced_from s.table c.args.state.now) =
    same_made s.table c.args.state.now c.copy.new.self c.in-Some-made.paced c.copy.ensures.copied c.in-Some-made.is in
    rw (← c.self.view_is) (c.step.ensures.step
    ∙ step_from system (paced_in inside.here) (paced_in c.in-Some-made.paced) c.args.state.now c.args.choice c.in-Some.event
    inside.same copied found)
