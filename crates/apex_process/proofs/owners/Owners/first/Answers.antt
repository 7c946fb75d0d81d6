use Rattle.std.proofs.Common.{◌∙◌, arith}
use Rattle.apex_process.proofs.Owning.{none_among, read_word}
use Rattle.apex_process.proofs.owners.Owners.first.Goals as goal

pub returns-then-word-ne0-clause-value : goal.returns-then-word-ne0-clause-value
returns-then-word-ne0-clause-value c =
    let word = read_word c.self.inside.words.items c.args.mutex c.index-word.result.now (omega (arith, c.place.ensures.range, c.place.ensures.value, c.self.invariant)) (rw c.place.ensures.value at c.index-word.ensures) in
    rw (← c.self.view_is, word) c.first_among.ensures

pub returns-clause-value : goal.returns-clause-value
returns-clause-value c =
    let word = read_word c.self.inside.words.items c.args.mutex c.index-word.result.now (omega (arith, c.place.ensures.range, c.place.ensures.value, c.self.invariant)) (rw c.place.ensures.value at c.index-word.ensures) in
    rw (← c.self.view_is) (none_among c.self.inside.words.items c.args.mutex (word ∙ c.if-word-ne0.false))
