use Rattle.apex_states.specs.Keeping.{roots_found}
use Rattle.apex_states.proofs.Gathering.{IsKeeping}
use Rattle.apex_states.proofs.keeping.enter_all.Given as goal

abbrev pub invariant-loop-place : goal.invariant-loop-place
invariant-loop-place l = IsKeeping (roots_found l.pairs l.origins) l.initial.roots l.roots l.place
