-- Each choice keeps the state that it goes on to.
use Rattle.std.proofs.Common.{◌≡◌, ◌<◌, ◌≤◌, Some, length, ap, ◌∙◌, arith}
use Rattle.std.specs.List.{slice_get}
use Rattle.apex_explore.specs.Systems.{refuses, goes, step_within}
use Rattle.apex_states.specs.States.{Reached}
use Rattle.apex_states.specs.declared.states.Origin.{Origin}
use Rattle.apex_explore.proofs.Growth.{taken_step, IsExpanding-refused, IsExpanding-laid, all_made, AllAre-laid}
use Rattle.apex_explore.proofs.Keeping.{laid_from_kept, kept_width}
use Rattle.apex_explore.proofs.search.expand.Goals as goal
use Rattle.apex_explore.proofs.search.expand.Goals.{in-Refused, in-Next+in_ok-kept-in-Next+else-not-kept}

pub returns-then-not-kept-clause-outcome : goal.returns-then-not-kept-clause-outcome
returns-then-not-kept-clause-outcome g c =
    let k = c.restore.new.state in
    let here : slice_get c.restore.new.self.states c.args.place ≡ Some k = rw c.restore.ensures.same c.restore.ensures.state in
    let there = c.loop-choice.invariant.expanding.grows.states_front.same c.args.place k here in
    let leads = taken_step (g.S.System.choice_count c.args.system.now) (g.S.System.step c.args.system.now) k c.loop-choice.choice c.choices-choice-end.result (goes c.next.new.next) c.loop-choice-test.true c.choices-choice-end.ensures c.in-Next.ensures.step in
    let kept = rw c.if-not-kept.true at c.in_ok-kept-in-Next.ensures in
    let same = ap (λ (s : Reached). s.states) kept.2 in
    let room = ap (λ (s : Reached). s.room) c.restore.ensures.same in
    rw same (k, c.next.new.next, c.loop-choice.choice, there, leads, kept.0, kept.1 ∙ (c.loop-choice.invariant.room ∙ room))

pub loop-choice-preserved : goal.loop-choice-preserved
loop-choice-preserved g c =
    let so_far = c.loop-choice.invariant.expanding in
    let k = c.restore.new.state in
    let is : slice_get c.restore.new.self.states c.args.place ≡ Some k = rw c.restore.ensures.same c.restore.ensures.state in
    let choices = g.S.System.choice_count c.args.system.now in
    let own = g.S.System.step c.args.system.now in
    let step = step_within choices own in
    elim c.match-next.branch [
      | in-Refused w ↦
          let refused = taken_step choices own k c.loop-choice.choice c.choices-choice-end.result refuses c.loop-choice-test.true c.choices-choice-end.ensures w.in-Refused.ensures.step in
          rw w.states-is record {
            expanding = IsExpanding-refused step c.args.place c.restore.new.self.states c.restore.new.self.origins c.loop-choice.states.states c.loop-choice.states.origins c.loop-choice.choice k is refused so_far;
            width = c.loop-choice.invariant.width;
            room = c.loop-choice.invariant.room;
            workspace = c.next.ensures.workspace;
            inside = c.next.ensures.inside;
            all = c.loop-choice.invariant.all;
          }
      | in-Next+in_ok-kept-in-Next+else-not-kept w ↦
          let next = c.next.new.next in
          let leads = taken_step choices own k c.loop-choice.choice c.choices-choice-end.result (goes next) c.loop-choice-test.true c.choices-choice-end.ensures w.in-Next.ensures.step in
          let origin : Origin = record { parent = c.args.place; choice = c.loop-choice.choice } in
          let kept = rw w.if-not-kept.false at w.in_ok-kept-in-Next.ensures in
          let laid = laid_from_kept c.loop-choice.states next origin w.keep.new.self kept in
          let same = kept_width c.loop-choice.states next origin w.keep.new.self kept in
          rw w.states-is record {
            expanding = IsExpanding-laid step c.args.place c.restore.new.self.states c.restore.new.self.origins c.loop-choice.states.states c.loop-choice.states.origins w.keep.new.self.states w.keep.new.self.origins c.loop-choice.choice k next is leads laid so_far;
            width = same.0 ∙ c.loop-choice.invariant.width;
            room = same.1 ∙ c.loop-choice.invariant.room;
            workspace = c.next.ensures.workspace;
            inside = c.next.ensures.inside;
            all = AllAre-laid (g.S.System.is_state c.args.system.now) c.loop-choice.states.states c.loop-choice.states.origins next origin w.keep.new.self.states w.keep.new.self.origins c.loop-choice.invariant.all w.in-Next.ensures.state laid;
          }
    ]

pub returns-clause-outcome : goal.returns-clause-outcome
returns-clause-outcome g c =
    let past : g.S.System.choice_count c.args.system.now ≤ c.loop-choice.choice = omega (arith, c.choices-choice-end.ensures) in
    let place : c.args.place < length c.restore.new.self.states = rw c.restore.ensures.same c.requires.place in
    all_made (g.S.System.choice_count c.args.system.now) (g.S.System.step c.args.system.now) c.args.place c.restore.new.self.states c.restore.new.self.origins c.loop-choice.states.states c.loop-choice.states.origins c.loop-choice.choice past place c.loop-choice.invariant.expanding
