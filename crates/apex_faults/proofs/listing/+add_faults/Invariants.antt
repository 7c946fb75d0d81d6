use Rattle.apex_faults.proofs.listing.+add_faults.Given as goal

abbrev pub decreases-add_faults : goal.decreases-add_faults
decreases-add_faults l = l.most
