-- The digits are those of the table.
use Rattle.std.proofs.Common.{◌≡◌, ◌∙◌, ◌+◌, ◌-◌, ◌*◌, ◌/◌, ◌%◌, [], ◌∷◌, ◌++◌, ap, drop, take}
use Rattle.std.proofs.lemmas.List.{take_rest}
use Rattle.apex_traces.proofs.Numbers.{pair_text}
use Rattle.apex_history.specs.declared.puts.TheConstants.{DIGIT_PAIRS}
use Rattle.apex_traces.proofs.pieces.add_pair.Goals as goal

pub returns-clause-text : goal.returns-clause-text
returns-clause-text g c =
    let number = c.args.number in
    let rest : take (200 - 2 * number) (drop (2 * number) DIGIT_PAIRS) ≡ drop (2 * number) DIGIT_PAIRS = take_rest DIGIT_PAIRS (2 * number) in
    let digits : take 2 (take (200 - 2 * number) (drop (2 * number) DIGIT_PAIRS)) ≡ (48 + number / 10) ∷ (48 + number % 10) ∷ [] =
    rw rest (pair_text number c.requires.digits) in
    (rw c.from.ensures at c.extend_by_front.ensures.items) ∙ ap (λ l. c.args.piece.now.items ++ l) digits
