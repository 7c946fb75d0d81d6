-- The two texts are those of the line.
use Rattle.std.proofs.Common.{◌≡◌, ◌∙◌, codes}
use Rattle.apex_calls.specs.Lines.{asked_text, reply_text}
use Rattle.apex_objects.specs.Entries.{texts_part}
use Rattle.apex_history.proofs.Joined.{four_joined}
use Rattle.apex_objects.specs.Parts.{string_text}
use Rattle.apex_objects.specs.Words.{words_line}
use Rattle.apex_objects.proofs.Words.{words_call, words_reply}
use Rattle.apex_objects.proofs.texts.put_texts.Goals as goal

pub returns-clause-text : goal.returns-clause-text
unfolding texts_part
returns-clause-text c =
    let table = c.args.table.now in
    let entry = c.entry.inside in
    let many = c.call_length-many.ensures in
    let words : c.as_slice.result.now ≡ words_line table entry.call entry.reply = c.as_slice.ensures.value ∙ c.put_words.ensures.text in
    let call : c.texts_in.result.0.now ≡ asked_text table entry.call entry.reply =
    (rw words at c.texts_in.ensures.call) ∙ words_call table entry.call entry.reply _ many in
    let reply : c.texts_in.result.1.now ≡ reply_text table entry.reply =
    (rw words at c.texts_in.ensures.reply) ∙ words_reply table entry.call entry.reply _ many in
    let asked = string_text (asked_text table entry.call entry.reply) in
    let replied = string_text (reply_text table entry.reply) in
    rw (c.put_string-2.ensures.text, c.put-2.ensures.text, c.put_string.ensures.text, c.put.ensures.text, call, reply, ← c.entry.view_is)
    (four_joined c.args.line.now.items (codes ",\"call\":") asked (codes ",\"reply\":") replied)
