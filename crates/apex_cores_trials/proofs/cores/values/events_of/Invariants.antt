use Rattle.std.specs.Prelude.{All}
use Rattle.apex_machine.specs.Events.{IsWithin}
use Rattle.apex_cores_trials.proofs.cores.values.events_of.Given as goal

abbrev pub invariant-loop-line : goal.invariant-loop-line
invariant-loop-line g l = All (IsWithin l.cores) l.events.items
