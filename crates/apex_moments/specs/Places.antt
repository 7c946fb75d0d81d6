-- Lists by the places of what they hold.
use Rattle.std.specs.Prelude.{ℕ, zero, suc, List, [], ◌∷◌, ◌++◌}

-- the values of the first n places
abbrev pub of_places : {A : Type 0} → (ℕ → A) → ℕ → List A
of_places f zero = []
of_places f (suc n) = of_places f n ++ f n ∷ []
