use Rattle.apex_pace.proofs.pacing.+are_settled.Given as goal

abbrev pub decreases-are_settled : goal.decreases-are_settled
decreases-are_settled g l = l.n
