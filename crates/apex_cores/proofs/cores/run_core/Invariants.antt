use Rattle.std.specs.Prelude.{◌<◌}
use Rattle.apex_cores.specs.Runs.{IsLast}
use Rattle.apex_cores.proofs.Handing.{IsAtWork}
use Rattle.apex_cores.proofs.cores.run_core.Given as goal

abbrev pub invariant-loop-made : goal.invariant-loop-made
invariant-loop-made g l = record {
  at_work : IsAtWork g.G.Gate.does l.core l.fn.seat l.made l.seat l.fn.token l.token;
  some : 0 < l.made;
  last : IsLast l.seat l.last;
}
