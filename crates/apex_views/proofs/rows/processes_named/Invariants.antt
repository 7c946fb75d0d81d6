-- The places of the names so far are before those of the other ones.
use Rattle.std.proofs.Common.{◌≡◌, drop}
use Rattle.apex_views.specs.Rows.{places_named}
use Rattle.apex_views.proofs.Named.{behind}
use Rattle.apex_views.proofs.rows.processes_named.Given as goal

abbrev pub invariant-loop-name : goal.invariant-loop-name
invariant-loop-name l = record {
  split : places_named l.table l.names ≡ behind l.processes.items (places_named l.table (drop l.name-index l.names));
}
