-- The seven parts are those of the text.
use Rattle.std.proofs.Common.{◌∙◌, ◌++◌, ap, append_assoc, codes, decimal}
use Rattle.apex_json.specs.Strings.{json_text}
use Rattle.apex_traces.specs.Times.{time_text, time_back}
use Rattle.apex_traces.proofs.Counted.{back_text, counted, front_text}
use Rattle.apex_traces.proofs.SlicesWhole.{six_behind}
use Rattle.apex_traces.proofs.counters.add_count.Goals as goal

pub returns-clause-text : goal.returns-clause-text
returns-clause-text c =
    let head = codes ",\n{\"ph\":\"C\",\"pid\":3" in
    let ts = codes ",\"ts\":" in
    let time = time_text c.args.time in
    let front = front_text c.args.kind in
    let name = json_text c.args.name.now in
    let back = back_text c.args.kind in
    let count = decimal c.args.count in
    let end = codes "}}" in
    let text = c.args.piece.now.items in
    c.add_text-2.ensures.text ∙ ap (λ l. l ++ end) (six_behind text head (time_back c.args.time) front name back count _ _ _ _ _ _
    c.add_text.ensures.text (rw (ap time_back c.requires.stamp) at c.add_stamp.ensures.text)
    (rw c.front.ensures.value at c.add.ensures.text) c.add_escaped.ensures.text
    (rw c.back.ensures.value at c.add-2.ensures.text) c.add_number.ensures.text)
    ∙ ap (λ l. (text ++ (l ++ front ++ name ++ back ++ count)) ++ end) (append_assoc head ts time)
    ∙ append_assoc text (head ++ ts ++ time ++ front ++ name ++ back ++ count) end
    ∙ ap (λ l. text ++ l) (counted c.args.kind c.args.name.now c.args.time c.args.count)
