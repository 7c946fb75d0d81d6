use Rattle.std.proofs.Common.{◌∙◌, length}
use Rattle.apex_recall.proofs.Places.{as_stored, part_fits, restored_more, values_all}
use Rattle.apex_recall.proofs.restored.restore_all.Goals as goal

pub part-requires : goal.part-requires
part-requires g c =
    part_fits c.args.from c.loop-place.place g.P.Restored.WORDS (length c.args.parts.now)
    (length c.args.words.now) c.WORDS.result c.loop-place-test.true c.WORDS.ensures c.requires

pub loop-place-preserved : goal.loop-place-preserved
loop-place-preserved g c =
    restored_more g.P.Restored.restored c.args.words.now c.args.from g.P.Restored.WORDS
    c.args.parts.now c.loop-place.parts c.loop-place.place c.WORDS.result
    c.index-parts-place.result c.restore.new.self c.part.result.now c.loop-place-test.true
    c.loop-place.invariant c.WORDS.ensures c.part.ensures.part c.restore.ensures

pub returns : goal.returns
returns g c =
    c.loop-place.invariant ∙ values_all
    (as_stored g.P.Restored.restored c.args.words.now c.args.from g.P.Restored.WORDS)
    c.args.parts.now c.args.parts.now c.loop-place.place c.loop-place-test.false
    c.loop-place-test.false
