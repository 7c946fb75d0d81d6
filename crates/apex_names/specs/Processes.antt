-- The process that a text names, or else numbers.
use Rattle.std.specs.Prelude.{ℕ, ◌-◌, Bool, List, Option, length, option_map}
use Rattle.std.specs.List.{position}
use Rattle.std.specs.Option.{option_or}
use Rattle.std.specs.Str.{bytes_eq}
use Rattle.apex_machine.specs.table.Table.{ProcessConfig, Table}
use Rattle.apex_types.specs.Numbers.{at_least, at_most, number_of}

-- the process has this name
abbrev pub has_name : List ℕ → ProcessConfig → Bool
has_name name process = bytes_eq process.name name

-- the place of the process of this name
abbrev pub place_of_name : Table → List ℕ → Option ℕ
place_of_name table name = position (has_name name) table.processes

-- the place of the process of the number that a text writes, counted from 1
abbrev pub place_of_number : Table → List ℕ → Option ℕ
place_of_number table text =
    option_map (λ n. n - 1) (at_least 1 (at_most (length table.processes) (number_of text)))

-- the place of the process that a text names, or else numbers
abbrev pub place_of : Table → List ℕ → Option ℕ
place_of table text = option_or (place_of_name table text) (place_of_number table text)
