-- The trees whose text, as it is printed, is read back as the same tree.
use Rattle.std.specs.Prelude.{Bool, false, nat_le, ◌&&◌}
use Rattle.toml_parser.specs.Strings.{recursion_limit}
use Rattle.toml.specs.Data.{Data, table, members_depth, members_have_valid_dates}

-- a table whose arrays and tables nest at most as deep as TOML's reader allows, and whose dates exist
abbrev pub is_printable : Data → Bool
is_printable (table ms) = nat_le (members_depth ms) recursion_limit && members_have_valid_dates ms
is_printable _ = false
