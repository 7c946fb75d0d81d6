-- Linked lists as a contract sees them: the number of processes, and the processes of each list,
-- from its first to its last.
use Rattle.std.specs.Prelude.{◌≡◌, ℕ, ◌+◌, ◌<◌, ◌≤◌, true, false, ◌==◌, if◌then◌else◌, List, [], ◌∷◌, ◌++◌, map, length, replicate, slice_get, slice_index_or, slice_set, Option, Some}
use Rattle.apex_links.specs.Neighbours.{stands_in, after_in, IsDistinct}

-- how many processes there are, numbered from 0, and the processes of each list in their order
pub record Links : Type 0 where
  pub processes : ℕ
  pub lists : List (List ℕ)

-- empty lists, with the number of the processes and that of the lists
abbrev pub empty_links : ℕ → ℕ → Links
empty_links processes lists = record { processes = processes; lists = replicate lists [] }

-- the processes of list l
abbrev pub list_at : Links → ℕ → List ℕ
list_at links l = slice_index_or links.lists l []

-- process p is in no list
abbrev pub IsFree : Links → ℕ → Type 0
IsFree links p = (l : ℕ) → stands_in p (list_at links l) ≡ false

-- process p is in list l, and in no other
pub record IsOnlyIn (links : Links) (p l : ℕ) : Type 0 where
  pub known : l < length links.lists
  pub here : stands_in p (list_at links l) ≡ true
  pub alone : (m : ℕ) → stands_in p (list_at links m) ≡ true → m ≡ l

-- this process, or none, comes behind process p in the list of p
abbrev pub IsBehind : Links → ℕ → Option ℕ → Type 0
IsBehind links p next =
    (l : ℕ) → stands_in p (list_at links l) ≡ true → next ≡ after_in p (list_at links l)

-- this process, or none, is at the next place of the list in which process p is at place k
abbrev pub IsNextAt : Links → ℕ → Option ℕ → Type 0
IsNextAt links p next =
    (l k : ℕ) → slice_get (list_at links l) k ≡ Some p → next ≡ slice_get (list_at links l) (k + 1)

-- list l has these from now on, and the others keep theirs
abbrev pub with_list : Links → ℕ → List ℕ → Links
with_list links l xs = record links { lists = slice_set links.lists l xs }

-- process p is behind all others of list l from now on
abbrev pub pushed_back : Links → ℕ → ℕ → Links
pushed_back links l p = with_list links l (list_at links l ++ p ∷ [])

-- process p is before all others of list l from now on
abbrev pub pushed_front : Links → ℕ → ℕ → Links
pushed_front links l p = with_list links l (p ∷ list_at links l)

-- the list without process p
abbrev pub without : ℕ → List ℕ → List ℕ
without p [] = []
without p (x ∷ xs) = if p == x then xs else x ∷ without p xs

-- process p is in no list from now on
abbrev pub removed : Links → ℕ → Links
removed links p = record links { lists = map (without p) links.lists }

-- the list with process p right before another one
abbrev pub put_before : ℕ → ℕ → List ℕ → List ℕ
put_before other p [] = []
put_before other p (x ∷ xs) = if other == x then p ∷ x ∷ xs else x ∷ put_before other p xs

-- process p is right before another one from now on
abbrev pub inserted_before : Links → ℕ → ℕ → Links
inserted_before links other p = record links { lists = map (put_before other p) links.lists }

-- the processes of the lists are known, and none is in two places
pub record IsSound (links : Links) : Type 0 where
  pub known : (l p : ℕ) → stands_in p (list_at links l) ≡ true → p < links.processes
  pub distinct : (l : ℕ) → IsDistinct (list_at links l)
  pub apart : (l m p : ℕ) → stands_in p (list_at links l) ≡ true
      → stands_in p (list_at links m) ≡ true → l ≡ m
  pub short : (l : ℕ) → length (list_at links l) ≤ links.processes
