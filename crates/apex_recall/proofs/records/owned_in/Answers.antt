use Rattle.std.proofs.Common.{◌∙◌, ◌≡◌, sym, length, ◌+◌, arith}
use Rattle.std.proofs.lemmas.List.{length_push}
use Rattle.apex_recall.specs.Values.{holding_in}
use Rattle.apex_recall.proofs.Picked.{picked_more, picked_same}
use Rattle.apex_recall.proofs.records.owned_in.Goals as goal
use Rattle.apex_recall.proofs.records.owned_in.Goals.{in-Some, in_default}

pub loop-word-preserved : goal.loop-word-preserved
loop-word-preserved c =
    let words = c.args.words.now in
    let i = c.loop-word.word-index in
    elim c.match-holding_in.branch [
      | in-Some w ↦
          let more = picked_more holding_in words i 0 w.in-Some.holding c.loop-word-test.true
          (sym c.holding_in.ensures ∙ w.in-Some.is) in
          let one = length_push c.loop-word.owned w.in-Some.holding in
          let many : length c.match-holding_in.owned ≡ length c.loop-word.owned + 1 = cc in
          record { kept = cc; few = omega arith }
      | in_default w ↦
          let same = picked_same holding_in words i 0 c.loop-word-test.true
          (sym c.holding_in.ensures ∙ w.in_default.is) in
          let many : length c.match-holding_in.owned ≡ length c.loop-word.owned = cc in
          record { kept = cc; few = omega arith }
    ]
