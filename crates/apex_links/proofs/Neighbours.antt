-- The neighbours in a list as one process is put into it, or taken out of it.
use Rattle.std.proofs.Common.{◌≡◌, ◌≢◌, ℕ, true, false, ◌||◌, List, [], ◌∷◌, ◌++◌, Option, None, Some, is_none, inl, inr, refl, arith}
use Rattle.std.specs.Prelude.{if◌then◌else◌}
use Rattle.std.proofs.lemmas.Bool.{cases_Bool}
use Rattle.apex_machine.specs.processes.Running.{is_process}
use Rattle.apex_links.specs.Neighbours.{stands_in, IsDistinct, first_of, last_behind, last_of, after_in, before_behind, before_in}

-- a process is in two lists together if it is in one of them
pub stands_in-append : (p : ℕ) (xs ys : List ℕ) → stands_in p (xs ++ ys) ≡ (stands_in p xs || stands_in p ys)
stands_in-append p [] ys = refl
stands_in-append p (x ∷ xs) ys = grind (arith, stands_in-append p xs ys)

-- the last of a list is in it
pub last_stands : (p : ℕ) (b : Option ℕ) (x : ℕ) (xs : List ℕ) → is_process p (last_behind b (x ∷ xs)) ≡ true → stands_in p (x ∷ xs) ≡ true
last_stands p b x [] e = grind (arith, e)
last_stands p b x (y ∷ ys) e = grind (arith, last_stands p (Some x) y ys e)

pub last_in : (p : ℕ) (xs : List ℕ) → is_process p (last_of xs) ≡ true → stands_in p xs ≡ true
last_in p [] e = absurd (grind (arith, e))
last_in p (x ∷ xs) e = last_stands p None x xs e

-- the first of a list is in it
pub first_stands : (p : ℕ) (xs : List ℕ) → is_process p (first_of xs) ≡ true → stands_in p xs ≡ true
first_stands p [] e = grind (arith, e)
first_stands p (x ∷ xs) e = grind (arith, e)

-- the neighbours in a list of a process p other than n
module _ (n p : ℕ) (apart : p ≢ n) where
  -- with n in between, n comes before the first of the rest
  pub before_joined : (b : Option ℕ) (front rest : List ℕ) → IsDistinct (front ++ rest)
      → before_behind b p (front ++ n ∷ rest) ≡ (if is_process p (first_of rest) then Some n else before_behind b p (front ++ rest))
  before_joined b [] [] d = grind (arith, apart)
  before_joined b [] (y ∷ ys) d = grind (arith, apart)
  before_joined b (x ∷ xs) rest d = grind (arith, before_joined (Some x) xs rest d.1, first_stands p rest, stands_in-append x xs rest, d.0)

  -- with n in between, n comes behind the last of the front
  pub after_joined : (b : Option ℕ) (front rest : List ℕ) → is_process p b ≡ false → IsDistinct (front ++ rest)
      → after_in p (front ++ n ∷ rest) ≡ (if is_process p (last_behind b front) then Some n else after_in p (front ++ rest))
  after_joined b [] rest other d = grind (arith, apart, other)
  after_joined b (x ∷ []) rest other d = grind (arith, apart, other)
  after_joined b (x ∷ y ∷ ys) rest other d = grind (arith, after_joined (Some x) (y ∷ ys) rest, last_stands p (Some x) y ys, stands_in-append x (y ∷ ys) rest, d.0, d.1)

-- the last of the front comes before n
pub before_here : (n : ℕ) (b : Option ℕ) (front rest : List ℕ) → stands_in n front ≡ false → before_behind b n (front ++ n ∷ rest) ≡ last_behind b front
before_here n b [] rest out = grind arith
before_here n b (x ∷ xs) rest out = grind (arith, out, before_here n (Some x) xs rest)

-- the first of the rest comes behind n
pub after_here : (n : ℕ) (front rest : List ℕ) → stands_in n front ≡ false → after_in n (front ++ n ∷ rest) ≡ first_of rest
after_here n [] rest out = grind arith
after_here n (x ∷ xs) rest out = grind (arith, out, after_here n xs rest)

-- behind the last of the front comes the first of the rest
pub after_last : (p : ℕ) (b : Option ℕ) (front rest : List ℕ) → is_process p b ≡ false → IsDistinct (front ++ rest) → is_process p (last_behind b front) ≡ true
    → after_in p (front ++ rest) ≡ first_of rest
after_last p b [] rest other d here = absurd (grind (arith, other, here))
after_last p b (x ∷ []) rest other d here = grind (arith, here)
after_last p b (x ∷ y ∷ ys) rest other d here = grind (arith, after_last p (Some x) (y ∷ ys) rest, last_stands p (Some x) y ys, stands_in-append x (y ∷ ys) rest, d.0, d.1, here)

-- before the first of the rest comes the last of the front
pub before_first : (p : ℕ) (b : Option ℕ) (front rest : List ℕ) → IsDistinct (front ++ rest) → is_process p (first_of rest) ≡ true
    → before_behind b p (front ++ rest) ≡ last_behind b front
before_first p b [] [] d here = absurd (grind (arith, here))
before_first p b [] (y ∷ ys) d here = grind (arith, here)
before_first p b (x ∷ xs) rest d here = grind (arith, before_first p (Some x) xs rest d.1, first_stands p rest, stands_in-append x xs rest, d.0, here)

-- without n, its neighbours are beside each other
module _ (n p : ℕ) (apart : p ≢ n) (front rest : List ℕ) (d : IsDistinct (front ++ rest)) where
  pub before_parted : before_in p (front ++ rest) ≡ (if is_process p (first_of rest) then last_of front else before_in p (front ++ n ∷ rest))
  before_parted = elim (cases_Bool (is_process p (first_of rest))) as (λ _. before_in p (front ++ rest) ≡ (if is_process p (first_of rest) then last_of front else before_in p (front ++ n ∷ rest))) [
    | inl e ↦ rw (e, before_first p None front rest d e) refl
    | inr e ↦ rw (before_joined n p apart None front rest d, e) refl
  ]

  pub after_parted : after_in p (front ++ rest) ≡ (if is_process p (last_of front) then first_of rest else after_in p (front ++ n ∷ rest))
  after_parted = elim (cases_Bool (is_process p (last_of front))) as (λ _. after_in p (front ++ rest) ≡ (if is_process p (last_of front) then first_of rest else after_in p (front ++ n ∷ rest))) [
    | inl e ↦ rw (e, after_last p None front rest refl d e) refl
    | inr e ↦ rw (after_joined n p apart None front rest refl d, e) refl
  ]

-- a list behind a process has a last one
pub last_some : (b : ℕ) (xs : List ℕ) → is_none (last_behind (Some b) xs) ≡ false
last_some b [] = refl
last_some b (x ∷ xs) = last_some x xs

-- n is the first if no process is before it, and the last if none is behind it
pub first_joined : (n : ℕ) (front rest : List ℕ) → first_of (front ++ n ∷ rest) ≡ (if is_none (last_of front) then Some n else first_of (front ++ rest))
first_joined n [] rest = refl
first_joined n (x ∷ xs) rest = rw (last_some x xs) refl

pub last_joined : (n : ℕ) (b : Option ℕ) (front rest : List ℕ) → last_behind b (front ++ n ∷ rest) ≡ (if is_none (first_of rest) then Some n else last_behind b (front ++ rest))
last_joined n b [] [] = refl
last_joined n b [] (y ∷ ys) = refl
last_joined n b (x ∷ xs) rest = last_joined n (Some x) xs rest

-- without n, its neighbours are the first and the last if n was the first or the last
pub first_parted : (n : ℕ) (front rest : List ℕ) → first_of (front ++ rest) ≡ (if is_none (last_of front) then first_of rest else first_of (front ++ n ∷ rest))
first_parted n [] rest = refl
first_parted n (x ∷ xs) rest = rw (last_some x xs) refl

pub last_parted : (n : ℕ) (b : Option ℕ) (front rest : List ℕ) → last_behind b (front ++ rest) ≡ (if is_none (first_of rest) then last_behind b front else last_behind b (front ++ n ∷ rest))
last_parted n b [] [] = refl
last_parted n b [] (y ∷ ys) = refl
last_parted n b (x ∷ xs) rest = last_parted n (Some x) xs rest
