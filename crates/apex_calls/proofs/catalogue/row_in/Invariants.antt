use Rattle.std.proofs.Common.{◌≡◌, map, drop}
use Rattle.apex_calls.specs.Catalogue.{row_in, view}
use Rattle.apex_calls.proofs.catalogue.row_in.Given as goal

abbrev pub invariant-loop-row : goal.invariant-loop-row
invariant-loop-row l = row_in (map view (drop l.row-index l.rows)) l.word ≡ row_in (map view l.rows) l.word
