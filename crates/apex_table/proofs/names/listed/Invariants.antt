use Rattle.std.proofs.Common.{◌≡◌, drop, map, ◌++◌}
use Rattle.apex_table.proofs.names.listed.Given as goal

abbrev pub invariant-loop-entry : goal.invariant-loop-entry
invariant-loop-entry g l = record {
  rest : l.names.items ++ map g.T.HasName.name_of (drop l.entry-index l.entries) ≡ map g.T.HasName.name_of l.entries;
}
