-- The word of a tick that did not advance is known.
use Rattle.std.proofs.Common.{◌≡◌, arith, codes, decimal, refl}
use Rattle.std.proofs.lemmas.Fmt.{decimal_digit}
use Rattle.apex_objects.proofs.texts.plain_reply.Goals as goal

pub returns-in-Advanced-clause-rest : goal.returns-in-Advanced-clause-rest
returns-in-Advanced-clause-rest c = λ table. let zero_is : decimal 0 ≡ codes "0" = decimal_digit 0 (omega arith) in rw zero_is refl
