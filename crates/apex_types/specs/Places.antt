-- Lists whose elements know their places.
use Rattle.std.specs.Prelude.{ℕ, ◌+◌, List, [], ◌∷◌}

-- a value for each element, from its place and itself; the first one is at place p
abbrev pub map_places : {A B : Type 0} → (ℕ → A → B) → ℕ → List A → List B
map_places f p [] = []
map_places f p (x ∷ xs) = f p x ∷ map_places f (p + 1) xs
