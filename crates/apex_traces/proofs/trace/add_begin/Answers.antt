-- The parts are those of the text.
use Rattle.std.proofs.Common.{ap}
use Rattle.apex_traces.specs.Times.{time_back}
use Rattle.apex_traces.proofs.SlicesWhole.{begin_whole}
use Rattle.apex_traces.proofs.trace.add_begin.Goals as goal

pub returns-clause-text : goal.returns-clause-text
returns-clause-text c =
    let back = ap time_back c.requires.stamps in
    begin_whole c.args.spot c.args.piece.now.items c.add_begin_front.new.piece.items c.add_track.new.piece.items c.add_stamp.new.piece.items c.add_text.new.piece.items
    c.add_begin_front.ensures.text c.add_track.ensures.text (rw back at c.add_stamp.ensures.text) c.add_text.ensures.text
