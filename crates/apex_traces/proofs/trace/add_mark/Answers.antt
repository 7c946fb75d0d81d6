-- The parts are those of the text.
use Rattle.std.proofs.Common.{ap, codes}
use Rattle.apex_machine.specs.text.Texts.{id_text}
use Rattle.apex_traces.specs.Stamps.{begin_back}
use Rattle.apex_traces.specs.Times.{time_back}
use Rattle.apex_traces.proofs.SlicesWhole.{mark_back, six_behind}
use Rattle.apex_traces.proofs.trace.add_mark.Goals as goal

pub returns-clause-text : goal.returns-clause-text
returns-clause-text c =
    let front = codes ",\n{\"ph\":\"i\",\"pid\":2,\"tid\":" in
    let timed = rw (ap time_back c.requires.stamp) at c.add_stamp.ensures.text in
    six_behind c.args.piece.now.items front (id_text c.args.process) (begin_back c.args.time)
    c.args.word.now c.args.detail.now (codes "\"}") _ _ _ _ _ _
    c.add_text.ensures.text (rw c.number.ensures at c.add_track.ensures.text)
    (mark_back c.args.time _ _ _ timed c.add_text-2.ensures.text) c.add.ensures.text c.add-2.ensures.text c.add_text-3.ensures.text
