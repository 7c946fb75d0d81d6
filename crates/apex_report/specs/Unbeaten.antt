-- The first of some values that none of the others beats.
use Rattle.std.specs.Prelude.{Bool, List, Option, None, Some, find, not, if◌then◌else◌}
use Rattle.std.specs.List.{list_any}

-- one of the values beats this one
abbrev pub is_beaten : {X : Type 0} → (X → X → Bool) → List X → X → Bool
is_beaten beats xs x = list_any (λ other. beats other x) xs

-- the first of the values that none of them beats
abbrev pub first_unbeaten : {X : Type 0} → (X → X → Bool) → List X → Option X
first_unbeaten beats xs = find (λ x. not (is_beaten beats xs x)) xs

-- the value that is kept when one more comes: the new one only if it beats the one before
abbrev pub kept : {X : Type 0} → (X → X → Bool) → Option X → X → Option X
kept beats None x = Some x
kept beats (Some before) x = Some (if beats x before then x else before)
