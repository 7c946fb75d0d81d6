use Rattle.apex_jobs.proofs.Rounds.{AreGathering}
use Rattle.apex_jobs.proofs.expanding.gather.Given as goal

abbrev pub invariant-loop-place : goal.invariant-loop-place
invariant-loop-place g l = AreGathering (g.S.System.word_count l.system) (g.S.System.is_workspace l.system) l.initial.desks l.desks l.expansions.items l.place
