use Rattle.apex_cores.proofs.Running.{IsTicking}
use Rattle.apex_cores.proofs.ticking.run_ticker.Given as goal

abbrev pub invariant-loop-made : goal.invariant-loop-made
invariant-loop-made g l = IsTicking l.fn.ticker l.made l.ticker
