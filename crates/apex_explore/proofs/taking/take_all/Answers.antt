-- Expansions that are taken.
use Rattle.std.proofs.Common.{take}
use Rattle.apex_states.specs.Expansions.{found_in}
use Rattle.apex_states.specs.declared.expansions.Expansion.{Expansion}
use Rattle.apex_explore.specs.Systems.{step_within}
use Rattle.apex_explore.proofs.Joining.{Fit-wide}
use Rattle.apex_explore.proofs.Parting.{Follows-over, Follows-past, Follows-struck}
use Rattle.apex_explore.proofs.taking.take_all.Goals as goal

pub keep_all-requires-clause-wide : goal.keep_all-requires-clause-wide
keep_all-requires-clause-wide g c =
    let step = step_within (g.S.System.choice_count c.args.system.now) (g.S.System.step c.args.system.now) in
    Fit-wide step (g.S.System.is_state c.args.system.now) c.args.states.now c.args.front.now c.args.limit c.args.expansions.now c.reach_of-reach.result.count c.requires.fit

pub returns-then-not-kept-clause-follows : goal.returns-then-not-kept-clause-follows
returns-then-not-kept-clause-follows g c =
    let step = step_within (g.S.System.choice_count c.args.system.now) (g.S.System.step c.args.system.now) in
    let reach = c.reach_of-reach.result in
    let expansion : Expansion = record { finds = found_in c.args.states.now.width (take reach.count c.args.expansions.now); end = reach.end; hit = reach.hit } in
    Follows-over step (g.S.System.is_state c.args.system.now) (g.S.System.start c.args.system.now) (g.S.System.word_count c.args.system.now) c.args.states.now c.keep_all.new.self c.args.front.now expansion
    c.requires.stands c.reach_of-reach.ensures.fits (rw c.if-not-kept.true at c.in_ok-kept.ensures)

pub returns-in-Some-clause-follows : goal.returns-in-Some-clause-follows
returns-in-Some-clause-follows g c =
    let step = step_within (g.S.System.choice_count c.args.system.now) (g.S.System.step c.args.system.now) in
    let reach = c.reach_of-reach.result in
    let expansion : Expansion = record { finds = found_in c.args.states.now.width (take reach.count c.args.expansions.now); end = reach.end; hit = reach.hit } in
    Follows-struck step (g.S.System.is_state c.args.system.now) (g.S.System.start c.args.system.now) (g.S.System.word_count c.args.system.now) c.args.states.now c.keep_all.new.self c.args.front.now expansion
    c.requires.stands c.reach_of-reach.ensures.fits c.in-Some.choice c.in-Some.is (rw c.if-not-kept.false at c.in_ok-kept.ensures)

pub returns-in-None-clause-follows : goal.returns-in-None-clause-follows
returns-in-None-clause-follows g c =
    let step = step_within (g.S.System.choice_count c.args.system.now) (g.S.System.step c.args.system.now) in
    let reach = c.reach_of-reach.result in
    let expansion : Expansion = record { finds = found_in c.args.states.now.width (take reach.count c.args.expansions.now); end = reach.end; hit = reach.hit } in
    Follows-past step (g.S.System.is_state c.args.system.now) (g.S.System.start c.args.system.now) (g.S.System.word_count c.args.system.now) c.args.states.now c.keep_all.new.self c.args.front.now expansion
    c.requires.stands c.reach_of-reach.ensures.fits (rw c.if-not-kept.false at c.in_ok-kept.ensures)
