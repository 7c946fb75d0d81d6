-- Each choice is left out, or the state that it goes on to is found.
use Rattle.std.proofs.Common.{◌≤◌, arith}
use Rattle.apex_states.specs.declared.states.Origin.{Origin}
use Rattle.apex_explore.specs.Systems.{refuses, goes, step_within}
use Rattle.apex_explore.proofs.Finding.{each_made, IsFilling-put, IsFinding-put, IsFinding-refused, IsFinding-start}
use Rattle.apex_explore.proofs.Growth.{taken_step}
use Rattle.apex_explore.proofs.parts.expand_state.Goals as goal
use Rattle.apex_explore.proofs.parts.expand_state.Goals.{in-Refused, in-Next+in_ok-put-in-Next}

pub loop-choice-init : goal.loop-choice-init
loop-choice-init g c =
    let step = step_within (g.S.System.choice_count c.args.system.now) (g.S.System.step c.args.system.now) in
    rw (c.begin.ensures) (record {
      finding = IsFinding-start step c.args.place c.args.state.now c.args.finds.now;
      workspace = c.enter.ensures.workspace;
      inside = c.enter.ensures.inside;
      filling = c.requires.finds;
    })

pub loop-choice-preserved : goal.loop-choice-preserved
loop-choice-preserved g c =
    let so_far = c.loop-choice.invariant.finding in
    let old = c.begin.new.self in
    let finds = c.loop-choice.finds in
    let k = c.args.state.now in
    let choices = g.S.System.choice_count c.args.system.now in
    let own = g.S.System.step c.args.system.now in
    let step = step_within choices own in
    elim c.match-next.branch [
      | in-Refused w ↦
          let refused = taken_step choices own k c.loop-choice.choice c.choices-choice-end.result refuses c.loop-choice-test.true c.choices-choice-end.ensures w.in-Refused.ensures.step in
          rw w.finds-is record {
            finding = IsFinding-refused step c.args.place k old finds c.loop-choice.choice refused so_far;
            workspace = c.next.ensures.workspace;
            inside = c.next.ensures.inside;
            filling = c.loop-choice.invariant.filling;
          }
      | in-Next+in_ok-put-in-Next w ↦
          let next = c.next.new.next in
          let leads = taken_step choices own k c.loop-choice.choice c.choices-choice-end.result (goes next) c.loop-choice-test.true c.choices-choice-end.ensures w.in-Next.ensures.step in
          let origin : Origin = record { parent = c.args.place; choice = c.loop-choice.choice } in
          let put = w.in_ok-put-in-Next.ensures in
          rw w.finds-is record {
            finding = IsFinding-put step c.args.place k old finds w.put.new.self next c.loop-choice.choice leads c.loop-choice.invariant.filling.paired put so_far;
            workspace = c.next.ensures.workspace;
            inside = c.next.ensures.inside;
            filling = IsFilling-put (g.S.System.word_count c.args.system.now) (g.S.System.is_state c.args.system.now) finds w.put.new.self next origin put w.in-Next.ensures.state c.loop-choice.invariant.filling;
          }
    ]

pub returns-clause-outcome : goal.returns-clause-outcome
returns-clause-outcome g c =
    let choices = g.S.System.choice_count c.args.system.now in
    let past : choices ≤ c.loop-choice.choice = omega (arith, c.choices-choice-end.ensures) in
    each_made choices (g.S.System.step c.args.system.now) c.args.place c.args.state.now c.begin.new.self c.loop-choice.finds c.loop-choice.choice past c.loop-choice.invariant.finding
