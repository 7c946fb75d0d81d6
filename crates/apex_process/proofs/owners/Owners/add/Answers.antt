use Rattle.std.proofs.Common.{arith}
use Rattle.apex_process.proofs.Owning.{added, other_mutex}
use Rattle.apex_process.proofs.owners.Owners.add.Goals as goal

pub returns-clause-same : goal.returns-clause-same
returns-clause-same c = rw (← c.self.view_is, c.place.ensures.value, c.place-2.ensures.value)
    (added c.self.inside.words.items c.args.mutex c.args.process (omega (arith, c.place-2.ensures.range, c.place-2.ensures.value, c.self.invariant)) c.requires c.index_mut.result.now (rw c.place-2.ensures.value at c.index_mut.ensures.value))

pub returns-clause-others : goal.returns-clause-others
returns-clause-others c = λ m p apart. rw (← c.self.view_is, c.place-2.ensures.value) (other_mutex c.self.inside.words.items c.args.mutex m _ p apart)
