-- What the threads leave on the desks.
use Rattle.std.proofs.Common.{rules, subst}
use Rattle.std.proofs.lemmas.Result.{IfOk-at_ok}
use Rattle.apex_explore.specs.Desks.{IsDesk}
use Rattle.apex_states.specs.Lists.{AllAre}
use Rattle.apex_jobs.proofs.taking.take_and_expand.Goals as goal

pub returns-clause-desks : goal.returns-clause-desks
returns-clause-desks g c = subst (AllAre (IsDesk (g.S.System.word_count c.args.system.now) (g.S.System.is_workspace c.args.system.now))) (search rules) (IfOk-at_ok _ c.in_ok-found.was c.join_mut-stopped.ensures.1.met.1).1
