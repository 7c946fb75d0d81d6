-- The first word of a text that begins with neither a gap nor `(`.
use Rattle.std.proofs.Common.{refl, sym, ◌∙◌, ◌+◌, ◌-◌, drop, length, take}
use Rattle.apex_schedules.specs.Groups.{words}
use Rattle.apex_schedules.proofs.Words.{behind_word, other_first}
use Rattle.apex_schedules.proofs.pieces.cut_word.Goals as goal

pub returns-clause-words : goal.returns-clause-words
returns-clause-words c =
    let text = c.args.text.now in
    let end = c.length_of_word-end.result + 1 in
    other_first text _ _ c.requires refl (sym c.is_gap.ensures ∙ c.if-is_gap.false) c.if-first-eq40.false c.length_of_word-end.ensures.value
    ∙ behind_word (take end text) (words (take (length text - end) (drop end text))) (words c.behind_gap.result.now) (sym c.behind_gap.ensures.words)
