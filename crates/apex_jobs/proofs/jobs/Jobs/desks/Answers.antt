-- One desk more.
use Rattle.std.proofs.Common.{[], ◌∷◌, length-append, arith}
use Rattle.apex_explore.specs.Desks.{IsDesk}
use Rattle.apex_jobs.proofs.Members.{all_push}
use Rattle.apex_jobs.proofs.jobs.Jobs.desks.Goals as goal

pub loop-preserved : goal.loop-preserved
loop-preserved g c =
    let Is = IsDesk (g.S.System.word_count c.args.system.now) (g.S.System.is_workspace c.args.system.now) in
    rw c.in_ok-push.ensures.items record {
      count = omega (arith, length-append c.loop.desks.items (c.in_ok-new.field-0 ∷ []), c.loop.invariant.count);
      desks = all_push Is c.loop.desks.items c.in_ok-new.field-0 c.loop.invariant.desks c.in_ok-new.ensures;
    }
