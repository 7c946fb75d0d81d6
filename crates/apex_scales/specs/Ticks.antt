-- The length of a tick of a trace, in microseconds.
use Rattle.std.specs.Prelude.{ℕ, Option}
use Rattle.apex_types.specs.Numbers.{at_least, at_most}
use Rattle.apex_scales.specs.declared.ticks.TheConstants.{LEAST_TICK, LONGEST_TICK}

-- the length of a tick of this many microseconds, if a tick may have it
abbrev pub tick_length : Option ℕ → Option ℕ
tick_length microseconds = at_least LEAST_TICK (at_most LONGEST_TICK microseconds)
