use Rattle.apex_search.proofs.questions.+runs_some.Given as goal

abbrev pub decreases-runs_some : goal.decreases-runs_some
decreases-runs_some g l = l.n
