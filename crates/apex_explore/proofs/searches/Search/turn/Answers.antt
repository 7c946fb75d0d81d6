-- The level of the state that is next.
use Rattle.std.proofs.Common.{◌<◌, length, arith}
use Rattle.apex_explore.specs.Systems.{step_within}
use Rattle.apex_explore.proofs.Levels.{IsLevel-turned}
use Rattle.apex_explore.proofs.searches.Search.turn.Goals as goal

pub returns-clause-searched : goal.returns-clause-searched
returns-clause-searched g c =
    let step = step_within (g.S.System.choice_count c.args.system.now) (g.S.System.step c.args.system.now) in
    let reached = c.args.self.now.states in
    let front = c.args.self.now.front in
    let more : front.at < length reached.states = omega (arith, c.len-states.ensures.len, c.if-self-states.false) in
    (IsLevel-turned step (g.S.System.start c.args.system.now) reached.states reached.origins front c.turned-self.result c.len-states.result more c.requires.searched c.len-states.ensures.len c.turned-self.ensures).0
