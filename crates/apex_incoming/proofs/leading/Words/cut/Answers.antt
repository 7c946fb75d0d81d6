use Rattle.apex_incoming.proofs.Places.{places_behind}
use Rattle.apex_incoming.proofs.Spaces.{words_cut}
use Rattle.apex_incoming.proofs.leading.Words.cut.Goals as goal

pub invariant_of-rest : goal.invariant_of-rest
invariant_of-rest c = record { are = places_behind 32 c.args.self.text.now c.args.self.spaces c.lowest-at.result c.behind.result c.args.self.are c.behind.ensures }

pub returns : goal.returns
returns c = words_cut c.args.self.text.now c.args.self.spaces c.lowest-at.result c.args.self.are c.lowest-at.ensures.set c.lowest-at.ensures.below
