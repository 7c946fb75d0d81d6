-- The next name is a process's.
use Rattle.std.proofs.Common.{◌∙◌, arith}
use Rattle.apex_views.proofs.Named.{place_put}
use Rattle.apex_views.proofs.rows.processes_named.Goals as goal

pub loop-name-preserved : goal.loop-name-preserved
loop-name-preserved c = record {
  split = c.loop-name.invariant.split
      ∙ place_put c.args.table.now c.args.names.now c.loop-name.name-index c.name-item.result (omega arith) c.name-item.is _ _ _
      c.in-Some.ensures c.in_ok-push.ensures.items;
}
