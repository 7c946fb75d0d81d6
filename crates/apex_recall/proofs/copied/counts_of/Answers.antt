use Rattle.std.proofs.Common.{◌∙◌, ap}
use Rattle.apex_choices.specs.Counts.{StoredPaced, count_at, paced_in}
use Rattle.apex_forms.proofs.Counting.{kept_more}
use Rattle.apex_recall.proofs.copied.counts_of.Goals as goal

pub loop-number-preserved : goal.loop-number-preserved
loop-number-preserved c =
    let s = paced_in c.args.paced.now in
    let core = c.new-core.result in
    record {
      turns = kept_more s.turns c.loop-number.counts.turns c.set.new.self.turns c.loop-number.number core c.turns.result
          c.loop-number.invariant.turns c.set.ensures.turns c.new-core.ensures
          (c.turns.ensures ∙ ap (λ (p : StoredPaced). count_at p.counts.turns core) c.paced.view_is);
      worked = kept_more s.worked c.loop-number.counts.worked c.set.new.self.worked c.loop-number.number core c.worked.result
          c.loop-number.invariant.worked c.set.ensures.worked c.new-core.ensures
          (c.worked.ensures ∙ ap (λ (p : StoredPaced). count_at p.counts.worked core) c.paced.view_is);
    }
