-- The digits are those of the table.
use Rattle.std.proofs.Common.{◌≡◌, ◌∙◌, ◌++◌, ◌-◌, ◌*◌, ap, decimal, drop, take}
use Rattle.std.proofs.lemmas.List.{take_rest}
use Rattle.apex_traces.proofs.Numbers.{number_text}
use Rattle.apex_traces.specs.declared.pieces.TheConstants.{NUMBERS}
use Rattle.apex_traces.proofs.pieces.add_below_hundred.Goals as goal

pub returns-clause-text : goal.returns-clause-text
returns-clause-text g c =
    let number = c.args.number in
    let rest : take (200 - 2 * number) (drop (2 * number) NUMBERS) ≡ drop (2 * number) NUMBERS = take_rest NUMBERS (2 * number) in
    let digits : take c.digit_count.result (take (200 - 2 * number) (drop (2 * number) NUMBERS)) ≡ decimal number =
    rw (rest, c.digit_count.ensures.value) (number_text number c.requires.digits) in
    (rw c.from.ensures at c.extend_by_front.ensures.items) ∙ ap (λ l. c.args.piece.now.items ++ l) digits
