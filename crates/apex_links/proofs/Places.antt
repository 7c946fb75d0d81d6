-- Lists of processes, and lists of such lists.
use Rattle.std.proofs.Common.{◌≡◌, ◌≢◌, ℕ, zero, suc, ◌+◌, ◌<◌, Bool, true, false, ◌||◌, ◌==◌, List, [], ◌∷◌, ◌++◌, length, map, get_or, slice_get, replicate, None, Some, inl, inr, refl, ap, sym, subst, ◌∙◌, arith}
use Rattle.std.proofs.lemmas.Bool.{cases_eq, cases_Bool}
use Rattle.std.proofs.lemmas.Grind.{get_or-set_at}
use Rattle.std.proofs.lemmas.List.{ext_get_or, get_or-set_other, length-map, length-set}
use Rattle.std.proofs.lemmas.Option.{none-some, same_Some}
use Rattle.apex_links.specs.Neighbours.{stands_in, first_of, IsDistinct, after_in}
use Rattle.apex_links.specs.Links.{Links, list_at, with_list, removed, without, put_before, IsOnlyIn}
use Rattle.apex_links.specs.Placing.{placed}
use Rattle.apex_links.proofs.Walks.{past}

-- a list in which a process is has a front and a rest
pub record HasParts (p : ℕ) (xs : List ℕ) : Type 0 where
  pub front : List ℕ
  pub rest : List ℕ
  pub whole : xs ≡ front ++ p ∷ rest
  pub first : stands_in p front ≡ false

longer : (p x : ℕ) (xs : List ℕ) → p ≢ x → HasParts p xs → HasParts p (x ∷ xs)
longer p x xs apart tail = record {
  front = x ∷ tail.front;
  rest = tail.rest;
  whole = rw (← tail.whole) refl;
  first = grind (arith, apart, tail.first);
}

pub parts : (p : ℕ) (xs : List ℕ) → stands_in p xs ≡ true → HasParts p xs
parts p [] e = absurd (grind (arith, e))
parts p (x ∷ xs) e = elim (cases_eq p x) [
  | inl same ↦ record { front = []; rest = xs; whole = rw same refl; first = refl }
  | inr apart ↦ longer p x xs apart (parts p xs (grind (arith, e, apart)))
]

-- a list without one of its processes, and with one put before another
pub without_parts : (p : ℕ) (front rest : List ℕ) → stands_in p front ≡ false → without p (front ++ p ∷ rest) ≡ front ++ rest
without_parts p [] rest out = grind arith
without_parts p (x ∷ xs) rest out = grind (arith, out, without_parts p xs rest)

pub without_out : (p : ℕ) (xs : List ℕ) → stands_in p xs ≡ false → without p xs ≡ xs
without_out p [] out = refl
without_out p (x ∷ xs) out = grind (arith, out, without_out p xs)

pub put_parts : (other p : ℕ) (front rest : List ℕ) → stands_in other front ≡ false → put_before other p (front ++ other ∷ rest) ≡ front ++ p ∷ other ∷ rest
put_parts other p [] rest out = grind arith
put_parts other p (x ∷ xs) rest out = grind (arith, out, put_parts other p xs rest)

pub put_out : (other p : ℕ) (xs : List ℕ) → stands_in other xs ≡ false → put_before other p xs ≡ xs
put_out other p [] out = refl
put_out other p (x ∷ xs) out = grind (arith, out, put_out other p xs)

-- every other process stays in the list without p
pub stays_without : (p q : ℕ) (xs : List ℕ) → q ≢ p → stands_in q (without p xs) ≡ stands_in q xs
stays_without p q [] apart = refl
stays_without p q (x ∷ xs) apart = elim (cases_eq p x) as (λ _. stands_in q (without p (x ∷ xs)) ≡ stands_in q (x ∷ xs)) [
  | inl same ↦ grind (arith, same, apart)
  | inr other ↦ grind (arith, other, stays_without p q xs apart)
]

pub stood_before : (p q : ℕ) (xs : List ℕ) → stands_in q (without p xs) ≡ true → stands_in q xs ≡ true
stood_before p q [] here = here
stood_before p q (x ∷ xs) here = elim (cases_eq p x) as (λ _. stands_in q (x ∷ xs) ≡ true) [
  | inl same ↦ grind (arith, here, same)
  | inr apart ↦ grind (arith, here, apart, stood_before p q xs)
]

pub left_out : (p q : ℕ) (xs : List ℕ) → stands_in q xs ≡ false → stands_in q (without p xs) ≡ false
left_out p q xs out = elim (cases_Bool (stands_in q (without p xs))) [
  | inl here ↦ absurd (grind (arith, stood_before p q xs here, out))
  | inr gone ↦ gone
]

-- the first of a list is in it
pub first_stands : (p : ℕ) (xs : List ℕ) → first_of xs ≡ Some p → stands_in p xs ≡ true
first_stands p [] e = absurd (grind (arith, e))
first_stands p (x ∷ xs) e = grind (arith, same_Some x p e)

pub first_none : (p : ℕ) (xs : List ℕ) → first_of xs ≡ None → stands_in p xs ≡ false
first_none p [] e = refl
first_none p (x ∷ xs) e = absurd (none-some x (sym e))

-- a list of which one is taken out
pub distinct_without : (p : ℕ) (xs : List ℕ) → IsDistinct xs → IsDistinct (without p xs)
distinct_without p [] d = tt
distinct_without p (x ∷ xs) d = elim (cases_eq p x) as (λ _. IsDistinct (without p (x ∷ xs))) [
  | inl same ↦
      let gone : without p (x ∷ xs) ≡ xs = grind (arith, same) in
      subst (λ (ys : List ℕ). IsDistinct ys) (sym gone) d.1
  | inr apart ↦
      let stays : without p (x ∷ xs) ≡ x ∷ without p xs = grind (arith, apart) in
      subst (λ (ys : List ℕ). IsDistinct ys) (sym stays) (left_out p x xs d.0, distinct_without p xs d.1)
]

pub length_without : (p : ℕ) (xs : List ℕ) → stands_in p xs ≡ true → suc (length (without p xs)) ≡ length xs
length_without p [] here = absurd (grind (arith, here))
length_without p (x ∷ xs) here = elim (cases_eq p x) [
  | inl e ↦ grind (arith, e)
  | inr apart ↦ grind (arith, apart, here, length_without p xs)
]

-- a list with one process more, behind all others
pub stands_behind : (p q : ℕ) (xs : List ℕ) → stands_in q (xs ++ p ∷ []) ≡ (q == p || stands_in q xs)
stands_behind p q [] = refl
stands_behind p q (x ∷ xs) = grind (arith, stands_behind p q xs)

pub distinct_behind : (p : ℕ) (xs : List ℕ) → IsDistinct xs → stands_in p xs ≡ false → IsDistinct (xs ++ p ∷ [])
distinct_behind p [] d out = (refl, tt)
distinct_behind p (x ∷ xs) d out = (grind (arith, stands_behind p x xs, d.0, out), distinct_behind p xs d.1 (grind (arith, out)))

-- a list with one process more, at its place by a test
module _ (passes : ℕ → Bool) where
  pub length_placed : (p : ℕ) (xs : List ℕ) → length (placed passes p xs) ≡ suc (length xs)
  length_placed p [] = refl
  length_placed p (x ∷ xs) = elim (cases_Bool (passes x)) [
    | inl is ↦ rw is refl
    | inr isnt ↦ rw isnt (ap suc (length_placed p xs))
  ]

  pub stands_placed : (p q : ℕ) (xs : List ℕ) → stands_in q (placed passes p xs) ≡ (q == p || stands_in q xs)
  stands_placed p q [] = refl
  stands_placed p q (x ∷ xs) = elim (cases_Bool (passes x)) [
    | inl is ↦ rw is refl
    | inr isnt ↦ rw isnt (grind (arith, stands_placed p q xs))
  ]

  pub distinct_placed : (p : ℕ) (xs : List ℕ) → IsDistinct xs → stands_in p xs ≡ false → IsDistinct (placed passes p xs)
  distinct_placed p [] d out = (refl, tt)
  distinct_placed p (x ∷ xs) d out = elim (cases_Bool (passes x)) as (λ _. IsDistinct (placed passes p (x ∷ xs))) [
    | inl is ↦ rw is (out, d)
    | inr isnt ↦ rw isnt (grind (arith, stands_placed p x xs, d.0, out), distinct_placed p xs d.1 (grind (arith, out)))
  ]

-- a list of a changed set
pub at_map : (f : List ℕ → List ℕ) → f [] ≡ [] → (xs : List (List ℕ)) (l : ℕ) → get_or (map f xs) l [] ≡ f (get_or xs l [])
at_map f e [] l = sym e
at_map f e (x ∷ xs) zero = refl
at_map f e (x ∷ xs) (suc l) = at_map f e xs l

pub map_same : (f : List ℕ → List ℕ) → f [] ≡ [] → (xs : List (List ℕ)) → ((l : ℕ) → f (get_or xs l []) ≡ get_or xs l []) → map f xs ≡ xs
map_same f e xs each = ext_get_or [] _ _ (length-map xs f) (λ l _. at_map f e xs l ∙ each l)

-- the process at a place of a list is in it, and the one at the next place comes behind it
pub at_stands : (n : ℕ) (xs : List ℕ) (k : ℕ) → slice_get xs k ≡ Some n → stands_in n xs ≡ true
at_stands n [] k there = absurd (grind (arith, there))
at_stands n (x ∷ xs) zero there = grind (arith, there)
at_stands n (x ∷ xs) (suc k) there = grind (arith, at_stands n xs k there)

behind_first : (x : ℕ) (xs : List ℕ) → after_in x (x ∷ xs) ≡ slice_get xs 0
behind_first x [] = grind arith
behind_first x (y ∷ ys) = grind arith

pub after_at : (n : ℕ) (xs : List ℕ) (k : ℕ) → IsDistinct xs → slice_get xs k ≡ Some n → after_in n xs ≡ slice_get xs (k + 1)
after_at n [] k d there = absurd (grind (arith, there))
after_at n (x ∷ xs) zero d there = subst (λ (m : ℕ). after_in m (x ∷ xs) ≡ slice_get xs 0) (same_Some x n there) (behind_first x xs)
after_at n (x ∷ xs) (suc k) d there =
    let e : suc k + 1 ≡ suc (k + 1) = omega arith in
    rw e (past n x xs (at_stands n xs k there) d.0 ∙ after_at n xs k d.1 there)

-- a list with a process is one of the set
pub known_list : (lists : List (List ℕ)) (l p : ℕ) → stands_in p (get_or lists l []) ≡ true → l < length lists
known_list [] l p stands = absurd (grind (arith, stands))
known_list (x ∷ xs) zero p stands = omega arith
known_list (x ∷ xs) (suc l) p stands = omega (arith, known_list xs l p stands)

-- a process that is taken out of a list is no longer in it
pub without_gone : (n : ℕ) (xs : List ℕ) → IsDistinct xs → stands_in n (without n xs) ≡ false
without_gone n [] d = refl
without_gone n (x ∷ xs) d = elim (cases_eq n x) as (λ _. stands_in n (without n (x ∷ xs)) ≡ false) [
  | inl e ↦ grind (arith, e, d.0)
  | inr apart ↦ grind (arith, apart, without_gone n xs d.1)
]

-- n of the same
pub same_all : {A : Type 0} (x : A) (many i : ℕ) → get_or (replicate many x) i x ≡ x
same_all x zero i = refl
same_all x (suc many) zero = refl
same_all x (suc many) (suc i) = same_all x many i

-- a list of a set of which one process is taken out, or of which one list has changed
module _ (links : Links) where
  pub at_removed : (p l : ℕ) → list_at (removed links p) l ≡ without p (list_at links l)
  at_removed p l = at_map (without p) refl links.lists l

  pub at_with : (l : ℕ) (xs : List ℕ) → l < length links.lists → list_at (with_list links l xs) l ≡ xs
  at_with l xs inside = get_or-set_at links.lists l l xs [] refl inside

  pub at_with_other : (l m : ℕ) (xs : List ℕ) → m ≢ l → list_at (with_list links l xs) m ≡ list_at links m
  at_with_other l m xs apart = get_or-set_other links.lists l m xs [] apart

  -- a process that is in one list alone is in no other
  pub only_there : (p l m : ℕ) → IsOnlyIn links p l → m ≢ l → stands_in p (list_at links m) ≡ false
  only_there p l m only apart = elim (cases_Bool (stands_in p (list_at links m))) [
    | inl e ↦ absurd (apart (only.alone m e))
    | inr e ↦ e
  ]

  -- every other process stays as one is taken out
  pub stays_removed : (p q l : ℕ) → q ≢ p → stands_in q (list_at (removed links p) l) ≡ stands_in q (list_at links l)
  stays_removed p q l apart = rw (at_removed p l) (stays_without p q (list_at links l) apart)

  -- a set keeps the number of its lists
  pub as_many_removed : (p : ℕ) → length (removed links p).lists ≡ length links.lists
  as_many_removed p = length-map links.lists (without p)

  pub as_many_with : (l : ℕ) (xs : List ℕ) → length (with_list links l xs).lists ≡ length links.lists
  as_many_with l xs = length-set links.lists l xs
