use Rattle.apex_pace.proofs.pacing.+first_work_end.Given as goal

abbrev pub decreases-first_work_end : goal.decreases-first_work_end
decreases-first_work_end g l = l.n
