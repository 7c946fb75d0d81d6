use denote.Text.{Utf8}
use denote.Shadow.{shadow}
use Rattle.apex_lab_runs.proofs.comparing.has_parts.Given as goal

-- what is left of the text is text
abbrev pub invariant-loop-line : goal.invariant-loop-line
invariant-loop-line l =
    (goal.iterator-loop-line).can_next l.line-iterator
    × (goal.iterator-loop-line).is_finite l.line-iterator × shadow (Utf8 l.rest)
