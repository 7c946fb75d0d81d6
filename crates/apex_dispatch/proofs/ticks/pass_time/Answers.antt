use Rattle.std.proofs.Common.{arith}
use Rattle.apex_machine.proofs.Dues.{goal_before_deadlines, goal_before_dues, goal_forward}
use Rattle.apex_machine.proofs.Reaches.{in_time_later}
use Rattle.apex_dispatch.proofs.ticks.pass_time.Goals as goal

pub advance_to-requires-clause-forward : goal.advance_to-requires-clause-forward
advance_to-requires-clause-forward g c =
    omega (
      arith,
      c.tick_goal-goal.ensures,
      goal_forward (g.S.Store.roster c.args.store.now) c.args.n (λ p. (c.requires.instants p).due) (λ p. (c.requires.instants p).deadline),
    )

pub advance_to-requires-clause-dues : goal.advance_to-requires-clause-dues
advance_to-requires-clause-dues g c =
    rw c.tick_goal-goal.ensures (goal_before_dues (g.S.Store.roster c.args.store.now) c.args.n)

pub advance_to-requires-clause-deadlines : goal.advance_to-requires-clause-deadlines
advance_to-requires-clause-deadlines g c =
    rw c.tick_goal-goal.ensures (goal_before_deadlines (g.S.Store.roster c.args.store.now) c.args.n)

pub serve_instant-requires-clause-instants : goal.serve_instant-requires-clause-instants
serve_instant-requires-clause-instants g c =
    let old = g.S.Store.roster c.args.store.now in
    let n = c.args.n in
    let times = c.requires.instants in
    rw (c.advance_to.ensures, c.tick_goal-goal.ensures)
    (in_time_later old _ times (goal_forward old n (λ p. (times p).due) (λ p. (times p).deadline))
    (goal_before_dues old n) (goal_before_deadlines old n))

pub overflow_sub-result : goal.overflow_sub-result
overflow_sub-result g c =
    omega (
      arith,
      c.now-before.ensures,
      c.tick_goal-goal.ensures,
      goal_forward (g.S.Store.roster c.args.store.now) c.args.n (λ p. (c.requires.instants p).due) (λ p. (c.requires.instants p).deadline),
    )
