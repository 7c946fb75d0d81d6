-- The run whose reason or value changes are asked for.
use Rattle.std.specs.Prelude.{Result, Ok, Err}
use Rattle.apex_views.specs.declared.ShowFault.{ShowFault}
use Rattle.apex_views.specs.Shows.{Outcome, fails, outcome_with, stops}
use Rattle.apex_lab_cli.specs.declared.listed.Listed.{Listed}

-- what the source of the run gave
abbrev pub outcome_of : Result Listed ShowFault → Outcome
outcome_of (Ok listed) =
    let run = listed.run in
    outcome_with listed.departure run.kernel.table run.kernel.machine run.fault
outcome_of (Err fault) = stops (fails fault)
