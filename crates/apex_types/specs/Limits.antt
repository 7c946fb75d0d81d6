-- The bounds that follow from the limits of this profile.
use Rattle.std.specs.Prelude.{ℕ, ◌*◌, ◌^◌}
use Rattle.apex_types.specs.declared.limits.TheConstants.{MOST_PROCESSES, MOST_ENTRIES, MOST_TICKS}

-- the latest instant: as many ticks as a history has entries, each of the most ticks
abbrev pub latest : ℕ
latest = MOST_ENTRIES * MOST_TICKS

-- the stamps for which one event has room, upwards and downwards: four for each process
abbrev pub most_stamped : ℕ
most_stamped = 4 * MOST_PROCESSES

-- the bound of the stamps, upwards and downwards
abbrev pub most_stamps : ℕ
most_stamps = 2 ^ 40
