-- A line and a column of a text, both counted from 1; a column counts characters.
use Rattle.std.specs.Prelude.{◌≡◌, ◌≤◌, ℕ, length, ◌+◌, ◌==◌, ◌&&◌, nat_le, if◌then◌else◌, List, fold, take}
use Rattle.apex_faults.specs.declared.locations.Location.{Location}

abbrev pub at : ℕ → ℕ → Location
at line column = record { line = line; column = column }

-- where the byte after this one is; the later bytes of a character in UTF-8 take no column
abbrev pub after_byte : Location → ℕ → Location
after_byte here byte =
    if byte == 10 then at (here.line + 1) 1 else
    if nat_le 128 byte && nat_le byte 191 then here else at here.line (here.column + 1)

-- where the byte behind these ones is
abbrev pub location_after : List ℕ → Location
location_after bytes = fold after_byte (at 1 1) bytes

-- the location is that of a byte of the text, or that behind the text
abbrev pub IsLocationIn : List ℕ → Location → Type 0
IsLocationIn text here =
    (n : ℕ) × (n ≤ length text) × (here ≡ location_after (take n text))
