-- Prefixes of one list.
use Rattle.std.proofs.Common.{List, [], ◌∷◌, refl, ap}
use mathlib.Core.List.{IsPrefix}

pub prefix_self : {A : Type 0} (xs : List A) → IsPrefix xs xs
prefix_self [] = ([], refl)
prefix_self (x ∷ xs) = ((prefix_self xs).0, ap (λ ys. x ∷ ys) (prefix_self xs).1)
