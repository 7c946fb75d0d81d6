-- The lines so far are passed.
use Rattle.std.proofs.Common.{◌≡◌, ℕ, ◌+◌, ◌-◌, length}
use Rattle.std.specs.Prelude.{min}
use Rattle.apex_departures.specs.Lines.{line_parts, most_number, part_given, place_given}
use Rattle.apex_departures.proofs.lines.given_line.Given as goal

abbrev pub invariant-loop-rest : goal.invariant-loop-rest
invariant-loop-rest l = record {
  passed : (p : ℕ) × (l.number ≡ min (p + 1) most_number)
      × (place_given l.comments (line_parts l.history) (l.fn.number - 1) ≡ p + place_given l.comments (line_parts l.left) l.more);
  bytes : part_given l.comments (line_parts l.history) (l.fn.number - 1) ≡ part_given l.comments (line_parts l.left) l.more;
}

abbrev pub decreases-loop-rest : goal.decreases-loop-rest
decreases-loop-rest l = length l.left
