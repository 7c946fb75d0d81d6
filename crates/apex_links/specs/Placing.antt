-- The place of a process by a test: right before the first one that passes it.
use Rattle.std.specs.Prelude.{◌≡◌, ℕ, Bool, true, if◌then◌else◌, List, [], ◌∷◌, Option, None, Some, ⊤}
use Rattle.apex_links.specs.Neighbours.{stands_in}
use Rattle.apex_links.specs.Links.{Links, list_at, with_list}

-- the first of these that passes the test
abbrev pub first_such : (ℕ → Bool) → List ℕ → Option ℕ
first_such passes [] = None
first_such passes (x ∷ xs) = if passes x then Some x else first_such passes xs

-- the list with process p right before the first that passes the test, or behind all if none does
abbrev pub placed : (ℕ → Bool) → ℕ → List ℕ → List ℕ
placed passes p [] = p ∷ []
placed passes p (x ∷ xs) = if passes x then p ∷ x ∷ xs else x ∷ placed passes p xs

-- process p is in list l from now on, at its place by the test
abbrev pub placed_in : (ℕ → Bool) → Links → ℕ → ℕ → Links
placed_in passes links l p = with_list links l (placed passes p (list_at links l))

-- all pass the test that come behind one that passes it
abbrev pub IsRising : (ℕ → Bool) → List ℕ → Type 0
IsRising passes [] = ⊤
IsRising passes (x ∷ xs) =
    (passes x ≡ true → (q : ℕ) → stands_in q xs ≡ true → passes q ≡ true) × IsRising passes xs
