use Rattle.apex_forms.proofs.Ranking.{IsRanked}
use Rattle.apex_forms.proofs.forms.older_rivals.Given as goal

abbrev pub invariant-loop-other : goal.invariant-loop-other
invariant-loop-other l = IsRanked l.store l.place l.other l.older l.ranks
