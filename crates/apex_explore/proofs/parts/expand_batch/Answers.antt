-- The states of a batch, one after the other.
use Rattle.std.proofs.Common.{◌+◌, ap, arith}
use Rattle.apex_explore.specs.Systems.{step_within}
use Rattle.std.proofs.lemmas.Grind.{pieces}
use Rattle.apex_explore.proofs.Finding.{Finds-more, Finds-past}
use Rattle.apex_explore.proofs.parts.expand_batch.Goals as goal

pub returns-in-Ok-Some-clause-expansion : goal.returns-in-Ok-Some-clause-expansion
returns-in-Ok-Some-clause-expansion g c =
    let step = step_within (g.S.System.choice_count c.args.system.now) (g.S.System.step c.args.system.now) in
    let batch = c.args.batch.now in
    let at = c.loop-at.at in
    let k = c.state-state.result.now in
    let new = c.expand_state.new.finds in
    let more = rw c.first.ensures at c.in-Ok-Some.ensures.more in
    record {
      done = at;
      finds = Finds-more step batch at k c.state-state.ensures.state c.loop-at.finds new more c.loop-at.invariant.found;
      filling = c.in-Ok-Some.ensures.finds;
      end = ap (λ n. n + at) c.first.ensures;
      ends = (k, c.state-state.ensures.state, rw c.in-Ok-Some.field-0-is at c.in-Ok-Some.ensures.outcome);
    }

pub loop-at-preserved : goal.loop-at-preserved
loop-at-preserved g c =
    let step = step_within (g.S.System.choice_count c.args.system.now) (g.S.System.step c.args.system.now) in
    let batch = c.args.batch.now in
    let at = c.loop-at.at in
    let k = c.state-state.result.now in
    let new = c.expand_state.new.finds in
    let more = rw c.first.ensures at c.in-Ok-None.ensures.more in
    let found = Finds-more step batch at k c.state-state.ensures.state c.loop-at.finds new more c.loop-at.invariant.found in
    record {
      found = Finds-past step batch at k c.state-state.ensures.state new (rw c.in-Ok-None.field-0-is at c.in-Ok-None.ensures.outcome) found;
      workspace = c.in-Ok-None.ensures.workspace;
      filling = c.in-Ok-None.ensures.finds;
    }

pub returns-clause-expansion : goal.returns-clause-expansion
returns-clause-expansion g c = search (pieces, arith)
