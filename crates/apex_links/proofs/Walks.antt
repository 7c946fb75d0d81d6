-- The lists that are linked are those that a walk from each first finds.
use Rattle.std.proofs.Common.{◌≡◌, ℕ, zero, suc, ◌<◌, ◌≤◌, true, false, List, [], ◌∷◌, length, get_or, inl, inr, refl, ap, sym, ◌∙◌, arith}
use Rattle.std.specs.Prelude.{eqb}
use Rattle.std.specs.List.{list_any, AllByRecursion, IsDistinct as IsDistinctBy}
use Rattle.std.proofs.lemmas.Map.Steps.{length-le_from_distinct_below}
use Rattle.std.proofs.lemmas.Bool.{cases_eq}
use Rattle.std.proofs.lemmas.List.{ext_get_or, get_or-map, length-map}
use Rattle.apex_links.specs.declared.chains.Node.{Node}
use Rattle.apex_links.specs.declared.chains.Ends.{Ends}
use Rattle.apex_links.specs.Neighbours.{stands_in, IsDistinct, first_of, after_in}
use Rattle.apex_links.specs.Chains.{no_ends, node_at, walk, lists_of, AreLinked}

-- the library's words for a process in a list, and for a distinct list
stands_any : (p : ℕ) (xs : List ℕ) → list_any (eqb p) xs ≡ stands_in p xs
stands_any p [] = refl
stands_any p (x ∷ xs) = grind (arith, stands_any p xs)

all_apart : (x : ℕ) (xs : List ℕ) → stands_in x xs ≡ false → AllByRecursion (λ y. eqb x y ≡ false) xs
all_apart x [] out = tt
all_apart x (y ∷ ys) out = (grind (arith, out), all_apart x ys (grind (arith, out)))

distinct_by : (xs : List ℕ) → IsDistinct xs → IsDistinctBy eqb xs
unfolding IsDistinctBy
distinct_by [] d = tt
distinct_by (x ∷ xs) d = (all_apart x xs d.0, distinct_by xs d.1)

-- a list has at most as many as there are processes
pub short_list : (xs : List ℕ) (n : ℕ) → IsDistinct xs → ((p : ℕ) → stands_in p xs ≡ true → p < n) → length xs ≤ n
short_list xs n d known = length-le_from_distinct_below xs n (distinct_by xs d) (λ p h. known p (rw (← stands_any p xs) h))

-- the process behind one that is behind the first of a list
pub past : (p x : ℕ) (xs : List ℕ) → stands_in p xs ≡ true → stands_in x xs ≡ false → after_in p (x ∷ xs) ≡ after_in p xs
past p x xs stands out = elim (cases_eq p x) [
  | inl e ↦ absurd (grind (arith, rw e at stands, out))
  | inr apart ↦ grind (arith, apart)
]

-- a walk from the first finds all
walk_finds : (nodes : List Node) (most : ℕ) (xs : List ℕ) → length xs ≤ most → IsDistinct xs
    → ((p : ℕ) → stands_in p xs ≡ true → (node_at nodes p).after ≡ after_in p xs) → walk nodes most (first_of xs) ≡ xs
walk_finds nodes zero [] short d follows = refl
walk_finds nodes (suc most) [] short d follows = refl
walk_finds nodes zero (x ∷ xs) short d follows = absurd (omega (arith, short))
walk_finds nodes (suc most) (x ∷ xs) short d follows =
    let here : after_in x (x ∷ xs) ≡ first_of xs = grind arith in
    let behind : (p : ℕ) → stands_in p xs ≡ true → (node_at nodes p).after ≡ after_in p xs = λ p stands.
    let same : after_in p (x ∷ xs) ≡ after_in p xs = past p x xs stands d.0 in
    follows p (grind (arith, stands)) ∙ same in
    let first : stands_in x (x ∷ xs) ≡ true = grind arith in
    rw (follows x first, here, walk_finds nodes most xs (omega (arith, short)) d.1 behind) refl

-- the list that a walk from its first finds
abbrev list_from : List Node → Ends → List ℕ
list_from nodes e = walk nodes (length nodes) e.first

-- the lists that are linked are those that the walks find
pub lists_are : (nodes : List Node) (ends : List Ends) (lists : List (List ℕ)) → length lists ≡ length ends
    → AreLinked nodes ends (λ l. get_or lists l []) → lists_of nodes ends ≡ lists
lists_are nodes ends lists long linked =
    let many = length-map ends (list_from nodes) in
    ext_get_or [] _ _ (many ∙ sym long) (λ l within. found l (omega (arith, within, many))) where
      found : (l : ℕ) → l < length ends → get_or (lists_of nodes ends) l [] ≡ get_or lists l []
      found l inside =
          let short = short_list (get_or lists l []) (length nodes) (linked.distinct l) (linked.known l) in
          let follows = λ (p : ℕ) (stands : stands_in p (get_or lists l []) ≡ true). ap (λ (n : Node). n.after) (linked.links l p stands) in
          get_or-map (list_from nodes) ends l no_ends [] inside
          ∙ rw (linked.edges l) (walk_finds nodes (length nodes) (get_or lists l []) short (linked.distinct l) follows)
