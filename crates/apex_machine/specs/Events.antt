-- The events that a partition may be asked for.
use Rattle.std.specs.Prelude.{ℕ, ◌<◌, ◌≤◌}
use Rattle.apex_types.specs.declared.limits.TheConstants.{MOST_TICKS}
use Rattle.apex_machine.specs.Terms.{Event}
use Rattle.apex_types.specs.declared.entries.Event.TheVariants.{Turn, Tick}

-- a turn is of a core below this number, and a tick of 1 to 1,048,576
abbrev pub IsWithin : ℕ → Event → Type 0
IsWithin cores (Turn core) = core < cores
IsWithin cores (Tick n) = (1 ≤ n) × (n ≤ MOST_TICKS)
