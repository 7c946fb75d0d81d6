use Rattle.apex_rounds.proofs.Counted.{opened}
use Rattle.apex_rounds.proofs.rounds.Rounds.new.Goals as goal

pub returns-clause-opening : goal.returns-clause-opening
returns-clause-opening g c = record {
  machine = c.requires;
  paced = opened c.args.kernel.table c.args.kernel.machine c.new.result c.requires c.new.ensures.turns c.new.ensures.since;
}
