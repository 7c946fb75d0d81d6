use denote.Text.{Utf8}
use denote.Shadow.{shadow}
use Rattle.apex_lab_runs.proofs.comparing.Counts.add_all.Given as goal

-- the input that is kept is text
abbrev pub invariant-loop-text : goal.invariant-loop-text
invariant-loop-text g l =
    (goal.iterator-loop-text g).can_next l.text-iterator
    × (goal.iterator-loop-text g).is_finite l.text-iterator × shadow (Utf8 l.input)
