use Rattle.std.proofs.Common.{arith, append_assoc}
use Rattle.std.proofs.lemmas.Fmt.{decimal_digit}
use Rattle.apex_history.proofs.Digits.{two_digits}
use Rattle.apex_history.proofs.puts.put_spaced_id.Goals as goal

pub returns-then-number-lt10-clause-text : goal.returns-then-number-lt10-clause-text
returns-then-number-lt10-clause-text g c = grind (arith, append_assoc, decimal_digit, two_digits)

pub returns-then-number-lt100-clause-text : goal.returns-then-number-lt100-clause-text
returns-then-number-lt100-clause-text g c = grind (arith, append_assoc, decimal_digit, two_digits)
