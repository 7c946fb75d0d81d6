use Rattle.apex_pace.proofs.pacing.+are_quiet.Given as goal

abbrev pub decreases-are_quiet : goal.decreases-are_quiet
decreases-are_quiet g l = l.n
