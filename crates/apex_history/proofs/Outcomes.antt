-- A fact that holds also holds if a call failed.
use Rattle.std.proofs.Common.{Result, Ok, Err, OnErr}

pub OnErr-always : {T E P : Type 0} (r : Result T E) → P → OnErr r P
OnErr-always (Ok x) p = tt
OnErr-always (Err e) p = p
