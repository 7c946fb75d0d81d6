use Rattle.apex_pace.proofs.Tighter.{keeps_still, tick_still, turn_still}
use Rattle.apex_pace.proofs.laws.tighter_paces_allow_no_more.Goals as goal

pub returns-clause-allowed : goal.returns-clause-allowed
returns-clause-allowed c pace other table s tighter = record {
  turns = turn_still pace other tighter table s;
  ticks = tick_still pace other tighter table s;
}

pub returns-clause-kept : goal.returns-clause-kept
returns-clause-kept c pace other table s tighter same = keeps_still pace other tighter same table s
