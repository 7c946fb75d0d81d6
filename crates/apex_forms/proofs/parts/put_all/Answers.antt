use Rattle.std.proofs.Common.{arith}
use Rattle.apex_forms.proofs.Puts.{more_put, none_put, parts_room}
use Rattle.apex_forms.proofs.parts.put_all.Goals as goal

pub loop-part-init : goal.loop-part-init
loop-part-init g c = none_put c.args.words.now c.args.at

pub put-end-requires : goal.put-end-requires
put-end-requires g c =
    let room = parts_room g.P.Stored.stored c.args.parts.now c.loop-part.part-index
    c.part-item.result c.loop-part-test.true c.part-item.is in
    omega arith

pub loop-part-preserved : goal.loop-part-preserved
loop-part-preserved g c =
    more_put g.P.Stored.stored c.args.parts.now c.loop-part.part-index c.part-item.result c.args.at
    c.loop-part.end c.put-end.result c.args.words.now c.loop-part.words c.put-end.new.words
    c.loop-part-test.true c.part-item.is c.loop-part.invariant c.put-end.ensures
