-- The words of a text, and the two of them that name a core and the ticks of a tick.
use Rattle.std.specs.Prelude.{ℕ, ◌-◌, List, [], ◌∷◌, Option, Some, None, ◌==◌, ◌&&◌, nat_le, if◌then◌else◌}
use Rattle.std.specs.List.{slice_split}
use Rattle.apex_types.specs.declared.limits.TheConstants.{MOST_TICKS}
use Rattle.apex_types.specs.Numbers.{number_of, at_least, at_most}

-- the parts of a text between a separator, which may be empty
abbrev pub parts : ℕ → List ℕ → List (List ℕ)
parts separator = slice_split (λ byte. byte == separator)

-- the parts of the rest after a separator, if there is one
abbrev pub parts_after : ℕ → Option (List ℕ) → List (List ℕ)
parts_after separator None = []
parts_after separator (Some rest) = parts separator rest

-- a core's number, one digit from 0 to 7
abbrev pub core_of : List ℕ → Option ℕ
core_of [] = None
core_of (digit ∷ []) = if nat_le 48 digit && nat_le digit 55 then Some (digit - 48) else None
core_of (digit ∷ next ∷ rest) = None

-- the ticks of time of a tick, 1 to `MOST_TICKS`
abbrev pub ticks_of : List ℕ → Option ℕ
ticks_of word = at_least 1 (at_most MOST_TICKS (number_of word))
