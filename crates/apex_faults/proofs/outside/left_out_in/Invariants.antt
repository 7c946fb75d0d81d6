use Rattle.std.proofs.Common.{◌≡◌, map, drop}
use Rattle.apex_faults.specs.Outside.{left_out_in, view}
use Rattle.apex_faults.proofs.outside.left_out_in.Given as goal

-- the answer is that of the rows that are left
abbrev pub invariant-loop-row : goal.invariant-loop-row
invariant-loop-row l =
    left_out_in (map view (drop l.row-index l.rows)) l.word ≡ left_out_in (map view l.rows) l.word
