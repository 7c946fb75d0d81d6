use Rattle.std.proofs.Common.{◌≡◌, ◌<◌, ◌∙◌, ap, length, set, arith, None}
use Rattle.std.proofs.lemmas.List.{length-set}
use Rattle.apex_dispatch.specs.Works.{work_at}
use Rattle.apex_recall.proofs.Places.{below_next, set_is}
use Rattle.apex_recall.specs.Restored.{core_part, open_in, part, works_in}
use Rattle.apex_recall.proofs.restored.works_in.Goals as goal

pub loop-number-preserved : goal.loop-number-preserved
loop-number-preserved c =
    let words = c.args.words.now in
    let works = c.loop-number.of_core in
    let place = c.from-place.result in
    let within : place < length works = omega arith in
    record {
      each = below_next (work_at works) (work_at (set works place c.open_in.result))
          (λ core. open_in (core_part words core)) None c.loop-number.number place c.open_in.result
          c.from-place.ensures
          (c.open_in.ensures ∙ ap open_in
          (c.part.ensures.part ∙ ap (λ k. part words 3 k 5) c.from-place.ensures))
          c.loop-number.invariant.each (set_is works place c.open_in.result None within);
      many = length-set works place c.open_in.result ∙ c.loop-number.invariant.many;
    }

pub returns : goal.returns
returns c = λ core.
    let e : c.loop-number.number ≡ c.args.cores = omega arith in
    ap (λ works. work_at works core) c.of.ensures ∙ c.loop-number.invariant.each core
    ∙ ap (λ cores. works_in cores c.args.words.now core) e
