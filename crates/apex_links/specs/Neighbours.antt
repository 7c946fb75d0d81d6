-- Neighbours in a list of processes.
use Rattle.std.specs.Prelude.{◌≡◌, ℕ, Bool, false, ◌||◌, ◌==◌, if◌then◌else◌, List, [], ◌∷◌, Option, None, Some, ⊤}

-- process p is in the list
abbrev pub stands_in : ℕ → List ℕ → Bool
stands_in p [] = false
stands_in p (x ∷ xs) = p == x || stands_in p xs

-- no process is in the list twice
abbrev pub IsDistinct : List ℕ → Type 0
IsDistinct [] = ⊤
IsDistinct (x ∷ xs) = (stands_in x xs ≡ false) × IsDistinct xs

-- the first of the list
abbrev pub first_of : List ℕ → Option ℕ
first_of [] = None
first_of (x ∷ xs) = Some x

-- the last of the list, or the one before it if the list is empty
abbrev pub last_behind : Option ℕ → List ℕ → Option ℕ
last_behind before [] = before
last_behind before (x ∷ xs) = last_behind (Some x) xs

-- the last of the list
abbrev pub last_of : List ℕ → Option ℕ
last_of xs = last_behind None xs

-- the process behind process p
abbrev pub after_in : ℕ → List ℕ → Option ℕ
after_in p [] = None
after_in p (x ∷ xs) = if p == x then first_of xs else after_in p xs

-- the process before process p in a list that comes behind the one that is given
abbrev pub before_behind : Option ℕ → ℕ → List ℕ → Option ℕ
before_behind before p [] = None
before_behind before p (x ∷ xs) = if p == x then before else before_behind (Some x) p xs

-- the process before process p
abbrev pub before_in : ℕ → List ℕ → Option ℕ
before_in p xs = before_behind None p xs
