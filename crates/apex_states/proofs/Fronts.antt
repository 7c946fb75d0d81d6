-- Lists that go on others.
use Rattle.std.proofs.Common.{◌≡◌, ◌≢◌, ℕ, zero, suc, ◌+◌, ◌<◌, ◌⊎◌, List, [], ◌∷◌, ◌++◌, length, length-append, Some, refl, sym, ap, ◌∙◌, arith, get_or, inl, inr}
use Rattle.std.proofs.lemmas.Option.{same_Some, slice_get-get_or}
use Rattle.std.specs.List.{slice_get, slice_set}
use Rattle.apex_states.specs.Lists.{IsFront}

pub IsFront-refl : {X : Type 0} (xs : List X) → IsFront xs xs
IsFront-refl xs = record { same = λ _ _ h. h; longer = omega arith }

pub IsFront-trans : {X : Type 0} {xs ys zs : List X} → IsFront xs ys → IsFront ys zs → IsFront xs zs
IsFront-trans f g = record { same = λ i x h. g.same i x (f.same i x h); longer = omega arith }

pub IsFront-push : {X : Type 0} (xs : List X) (y : X) → IsFront xs (xs ++ y ∷ [])
IsFront-push xs y = record { same = same xs; longer = simp length-append (omega arith) }
  where
    same : (xs : List _) (i : ℕ) (x : _) → slice_get xs i ≡ Some x → slice_get (xs ++ y ∷ []) i ≡ Some x
    same [] i x h = cc
    same (z ∷ zs) zero x h = h
    same (z ∷ zs) (suc i) x h = same zs i x h

-- A key of the new list at a place of the old one is the old one's.
pub at_old_place : {X : Type 0} (old new : List X) (place : ℕ) (x : X) → IsFront old new → place < length old → slice_get new place ≡ Some x → slice_get old place ≡ Some x
at_old_place old new place x front within is =
    let was = slice_get-get_or old place x within in
    let same : Some (get_or old place x) ≡ Some x = sym (front.same place (get_or old place x) was) ∙ is in
    was ∙ same

-- what is at a place after one member was set
pub set_back : {X : Type 0} (xs : List X) (place : ℕ) (y : X) (at : ℕ) (x : X) → slice_get (slice_set xs place y) at ≡ Some x
    → ((at ≡ place) × (y ≡ x)) ⊎ ((at ≢ place) × (slice_get xs at ≡ Some x))
set_back [] place y at x is = cc
set_back (z ∷ xs) zero y zero x is = inl (refl, same_Some y x is)
set_back (z ∷ xs) zero y (suc at) x is = inr (λ e. absurd (omega (arith, e)), is)
set_back (z ∷ xs) (suc place) y zero x is = inr (λ e. absurd (omega (arith, e)), is)
set_back (z ∷ xs) (suc place) y (suc at) x is =
    elim (set_back xs place y at x is) [
      | inl here ↦ inl (ap suc here.0, here.1)
      | inr other ↦ inr (λ e. other.0 (omega (arith, e)), other.1)
    ]

-- Lists that are put behind others.

pub IsFront-append : {X : Type 0} (xs ys : List X) → IsFront xs (xs ++ ys)
IsFront-append xs ys = record { same = same xs; longer = simp length-append (omega arith) }
  where
    same : (xs : List _) (i : ℕ) (x : _) → slice_get xs i ≡ Some x → slice_get (xs ++ ys) i ≡ Some x
    same [] i x h = cc
    same (z ∷ zs) zero x h = h
    same (z ∷ zs) (suc i) x h = same zs i x h

pub get_right : {X : Type 0} (xs ys : List X) (at : ℕ) (y : X) → slice_get ys at ≡ Some y → slice_get (xs ++ ys) (length xs + at) ≡ Some y
get_right [] ys at y is =
    let e : 0 + at ≡ at = omega arith in
    ap (slice_get ys) e ∙ is
get_right (x ∷ xs) ys at y is =
    let e : suc (length xs) + at ≡ suc (length xs + at) = omega arith in
    ap (slice_get (x ∷ xs ++ ys)) e ∙ get_right xs ys at y is

-- a member is one of the first list, or one of the other
pub get_append : {X : Type 0} (xs ys : List X) (place : ℕ) (z : X) → slice_get (xs ++ ys) place ≡ Some z
    → (slice_get xs place ≡ Some z) ⊎ ((at : ℕ) × (place ≡ length xs + at) × (slice_get ys at ≡ Some z))
get_append [] ys place z is = inr (place, omega arith, is)
get_append (x ∷ xs) ys zero z is = inl is
get_append (x ∷ xs) ys (suc place) z is =
    elim (get_append xs ys place z is) [
      | inl before ↦ inl before
      | inr (at, e, there) ↦ inr (at, omega (arith, e), there)
    ]
