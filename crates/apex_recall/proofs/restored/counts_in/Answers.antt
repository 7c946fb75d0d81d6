use Rattle.std.proofs.Common.{◌≡◌, ◌∙◌, ap, slice_index, arith}
use Rattle.apex_recall.proofs.Places.{below_next}
use Rattle.apex_choices.specs.Counts.{count_at}
use Rattle.apex_recall.specs.Restored.{core_part, part, turns_in, worked_in}
use Rattle.apex_recall.proofs.restored.counts_in.Goals as goal

pub loop-number-preserved : goal.loop-number-preserved
loop-number-preserved c =
    let words = c.args.words.now in
    let here = c.part-core.ensures.part ∙ ap (λ k. part words 3 k 5) c.from.ensures in
    record {
      turns = below_next (count_at c.loop-number.counts.turns) (count_at c.set.new.self.turns)
          (λ core. slice_index (core_part words core) 3) 0 c.loop-number.number c.new.result
          (slice_index c.part-core.result.now 3) c.new.ensures (ap (λ p. slice_index p 3) here)
          c.loop-number.invariant.turns c.set.ensures.turns;
      worked = below_next (count_at c.loop-number.counts.worked) (count_at c.set.new.self.worked)
          (λ core. slice_index (core_part words core) 4) 0 c.loop-number.number c.new.result
          (slice_index c.part-core.result.now 4) c.new.ensures (ap (λ p. slice_index p 4) here)
          c.loop-number.invariant.worked c.set.ensures.worked;
    }

pub returns : goal.returns
returns c =
    let e : c.loop-number.number ≡ c.args.cores = omega arith in
    record {
      turns = λ core. c.loop-number.invariant.turns core
          ∙ ap (λ cores. turns_in cores c.args.words.now core) e;
      worked = λ core. c.loop-number.invariant.worked core
          ∙ ap (λ cores. worked_in cores c.args.words.now core) e;
    }
