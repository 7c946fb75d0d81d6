-- An id of two digits.
use Rattle.std.proofs.Common.{◌+◌, ◌<◌, ◌≤◌, arith, append_assoc, sym}
use Rattle.std.specs.Prelude.{codes}
use Rattle.apex_history.proofs.Digits.{two_digits}
use Rattle.apex_history.proofs.puts.put_woken.Goals as goal

pub returns-then-number-lt100-clause-text : goal.returns-then-number-lt100-clause-text
returns-then-number-lt100-clause-text c =
    let low : 10 ≤ c.args.process + 1 = grind arith in
    let high : c.args.process + 1 < 100 = grind arith in
    rw (c.put_bytes-then-number-lt100.ensures.text, c.pair-tens.ensures, c.number-number.ensures, two_digits (c.args.process + 1) low high)
    (sym (append_assoc c.args.line.now.items (codes " | woken ") _))
