use Rattle.apex_states.specs.States.{IsSided}
use Rattle.apex_states.proofs.roots.Roots.numbers.Given as goal

abbrev pub invariant-loop-place : goal.invariant-loop-place
invariant-loop-place l = IsSided l.self l.side l.numbers.items l.place
