-- There is a number, or there is none.
use Rattle.std.proofs.Common.{refl}
use Rattle.apex_departures.proofs.explaining.put_reason_of.Goals as goal

pub put_why-requires : goal.put_why-requires
put_why-requires g c = rw c.in-Some.is at c.requires

pub returns-in-Some : goal.returns-in-Some
returns-in-Some g c = rw c.in-Some.is c.put_why.ensures

pub returns-in-None : goal.returns-in-None
returns-in-None g c = rw c.in-None.is refl
