-- The modes of a partition.
use Rattle.std.specs.Prelude.{Bool, true, false}
use Rattle.apex_types.specs.Terms.{Mode}
use Rattle.apex_types.specs.declared.modes.Mode.TheVariants.{Idle, ColdStart, Normal}

-- the mode is NORMAL
abbrev pub is_normal : Mode → Bool
is_normal Idle = false
is_normal ColdStart = false
is_normal Normal = true

-- the mode is COLD_START
abbrev pub is_cold_start : Mode → Bool
is_cold_start Idle = false
is_cold_start ColdStart = true
is_cold_start Normal = false
