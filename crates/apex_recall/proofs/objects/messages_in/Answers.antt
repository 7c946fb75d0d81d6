use Rattle.std.proofs.Common.{◌∙◌, ◌≡◌, sym, length, ◌+◌, arith}
use Rattle.std.proofs.lemmas.List.{length_push}
use Rattle.apex_recall.specs.Values.{message_in}
use Rattle.apex_recall.proofs.Picked.{picked_more, picked_same}
use Rattle.apex_recall.proofs.objects.messages_in.Goals as goal
use Rattle.apex_recall.proofs.objects.messages_in.Goals.{in-Some, in_default}

pub loop-word-preserved : goal.loop-word-preserved
loop-word-preserved c =
    let words = c.args.words.now in
    let i = c.loop-word.word-index in
    elim c.match-message_in.branch [
      | in-Some w ↦
          let more = picked_more message_in words i 0 w.in-Some.field-0 c.loop-word-test.true
          (sym c.message_in.ensures ∙ w.in-Some.is) in
          let one = length_push c.loop-word.messages.items w.in-Some.field-0 in
          let pushed = w.push.ensures.items in
          let many : length c.match-message_in.messages.items
          ≡ length c.loop-word.messages.items + 1 = cc in
          record { kept = cc; few = omega arith }
      | in_default w ↦
          let same = picked_same message_in words i 0 c.loop-word-test.true
          (sym c.message_in.ensures ∙ w.in_default.is) in
          let many : length c.match-message_in.messages.items
          ≡ length c.loop-word.messages.items = cc in
          record { kept = cc; few = omega arith }
    ]
