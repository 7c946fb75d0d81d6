use Rattle.apex_choices.specs.Counts.{paced_in}
use Rattle.apex_search.proofs.Along.{IsAlong}
use Rattle.apex_search.proofs.systems.TableSystem.follow.Given as goal

abbrev pub invariant-loop-choice : goal.invariant-loop-choice
invariant-loop-choice l = IsAlong l.self l.path (paced_in l.paced) l.events.items l.choice-index
