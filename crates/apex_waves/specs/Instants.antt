-- The instants of a dump. It has the axis of a trace whose ticks are as short as they may be, and a nanosecond of that
-- is a unit of its time: a tick has 100,000 of them.
use Rattle.std.specs.Prelude.{ℕ}
use Rattle.apex_moments.specs.Instants.{time_at}
use Rattle.apex_moments.specs.declared.instants.Instant.{Instant}
use Rattle.apex_scales.specs.declared.ticks.TheConstants.{LEAST_TICK}

-- the time of an instant
abbrev pub units : Instant → ℕ
units instant = time_at LEAST_TICK instant
