use Rattle.apex_search.proofs.questions.+starts_some.Given as goal

abbrev pub decreases-starts_some : goal.decreases-starts_some
decreases-starts_some g l = l.n
