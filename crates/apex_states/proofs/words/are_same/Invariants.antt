use Rattle.apex_states.proofs.Comparing.{AreAlike}
use Rattle.apex_states.proofs.words.are_same.Given as goal

abbrev pub invariant-loop-at : goal.invariant-loop-at
invariant-loop-at l = AreAlike l.words l.others l.differ l.at
