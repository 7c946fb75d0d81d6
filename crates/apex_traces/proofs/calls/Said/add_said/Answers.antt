-- The parts are those of the text.
use Rattle.std.proofs.Common.{◌≡◌, ◌∙◌, ap}
use Rattle.apex_calls.specs.Lines.{asked_text, reply_text}
use Rattle.apex_moments.specs.Terms.{Entry}
use Rattle.apex_traces.proofs.SlicesWhole.{said_whole}
use Rattle.apex_traces.proofs.calls.Said.add_said.Goals as goal

pub returns-clause-text : goal.returns-clause-text
returns-clause-text c =
    let table = c.args.table.now in
    let entry = c.args.entry.now in
    let number : c.entry.inside.number ≡ entry.number = ap (λ (e : Entry). e.number) c.entry.view_is in
    let asked : c.as_slice.result.now ≡ asked_text table entry.call entry.reply =
    c.as_slice.ensures.value ∙ (rw c.clear.ensures at c.put_call_of.ensures.text) in
    said_whole entry.number (reply_text table entry.reply) (asked_text table entry.call entry.reply)
    c.args.piece.now.items _ _ _ _ _ _ _
    c.add_text.ensures.text (rw (c.from.ensures, number) at c.add_number.ensures.text) c.add_text-2.ensures.text
    c.add_reply.ensures.text c.add_text-3.ensures.text (rw asked at c.add_escaped.ensures.text) c.add_text-4.ensures.text
