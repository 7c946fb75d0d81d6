use Rattle.std.proofs.Common.{◌≡◌, map, drop}
use Rattle.std.specs.List.{list_any}
use Rattle.std.specs.Str.{bytes_eq}
use Rattle.apex_table.proofs.named.has_name.Given as goal

abbrev pub invariant-loop-entry : goal.invariant-loop-entry
invariant-loop-entry g l =
    list_any (bytes_eq l.name) (map g.T.HasName.name_of (drop l.entry-index l.entries))
    ≡ list_any (bytes_eq l.name) (map g.T.HasName.name_of l.entries)
