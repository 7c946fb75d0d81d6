-- A search that goes on by expansions.
use Rattle.apex_explore.proofs.searches.Search.take.Goals as goal

pub take_all-requires-clause-stands : goal.take_all-requires-clause-stands
take_all-requires-clause-stands g c = record { level = c.requires.searched; width = c.requires.over.width; states = c.requires.over.states }
