-- Lists in an order.
use Rattle.std.specs.Prelude.{◌≡◌, ℕ, Bool, true, List, [], ◌∷◌, ⊤}
use Rattle.apex_links.specs.Neighbours.{stands_in}

-- each of these comes before all behind it
abbrev pub IsSorted : (ℕ → ℕ → Bool) → List ℕ → Type 0
IsSorted before [] = ⊤
IsSorted before (p ∷ ps) =
    ((q : ℕ) → stands_in q ps ≡ true → before p q ≡ true) × IsSorted before ps
