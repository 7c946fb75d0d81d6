-- Lists whose items are changed, the first one and those behind it.
use Rattle.std.proofs.Common.{◌≡◌, ℕ, zero, suc, ◌+◌, ◌<◌, List, ◌∷◌, length, get_or, Some, refl, sym, ◌∙◌, subst, arith}
use Rattle.std.proofs.lemmas.Option.{same_Some, slice_get-get_or, slice_get_within}
use Rattle.std.specs.List.{slice_get}
use Rattle.apex_jobs.specs.Items.{AreChangedFrom, IsEachFrom}

pub IsEachFrom-head : {X : Type 0} (P : ℕ → X → Type 0) (first : ℕ) (x : X) (xs : List X) → IsEachFrom P first (x ∷ xs) → P first x
IsEachFrom-head P first x xs each = subst (λ n. P n x) {x = first + 0} (omega arith) (each 0 x refl)

pub IsEachFrom-tail : {X : Type 0} (P : ℕ → X → Type 0) (first : ℕ) (x : X) (xs : List X) → IsEachFrom P first (x ∷ xs) → IsEachFrom P (first + 1) xs
IsEachFrom-tail P first x xs each at item is = subst (λ n. P n item) {x = first + suc at} (omega arith) (each (suc at) item is)

pub AreChangedFrom-more : {X : Type 0} (R : ℕ → X → X → Type 0) (first : ℕ) (x y : X) (xs ys : List X) → R first x y → AreChangedFrom R (first + 1) xs ys → AreChangedFrom R first (x ∷ xs) (y ∷ ys)
AreChangedFrom-more R first x y xs ys one rest = record { count = omega (arith, rest.count); each = each }
  where
    each : (at : ℕ) (item : _) → slice_get (x ∷ xs) at ≡ Some item → (other : _) × (slice_get (y ∷ ys) at ≡ Some other) × R (first + at) item other
    each zero item is = (y, refl, subst (λ n. R n item y) {x = first} (omega arith) (subst (λ z. R first z y) (same_Some x item is) one))
    each (suc at) item is =
        let (other, there, changed) = rest.each at item is in
        (other, there, subst (λ n. R n item other) {x = first + 1 + at} (omega arith) changed)

pub AreChangedFrom-weaker : {X : Type 0} (R S : ℕ → X → X → Type 0) (first : ℕ) (old new : List X) → ((at : ℕ) (x y : X) → R at x y → S at x y) → AreChangedFrom R first old new → AreChangedFrom S first old new
AreChangedFrom-weaker R S first old new weaker changed = record {
  count = changed.count;
  each = λ at item is. let (other, there, change) = changed.each at item is in (other, there, weaker (first + at) item other change);
}

-- Items that are changed, by their places.
module _ {X : Type 0} (R : ℕ → X → X → Type 0) (old new : List X) (changed : AreChangedFrom R 0 old new) where
  pub left_of : (at : ℕ) (x : X) → slice_get old at ≡ Some x → (y : X) × (slice_get new at ≡ Some y) × R at x y
  left_of at x is =
      let (y, there, change) = changed.each at x is in
      (y, there, subst (λ n. R n x y) {x = 0 + at} (omega arith) change)

  pub left_from : (at : ℕ) (y : X) → slice_get new at ≡ Some y → (x : X) × (slice_get old at ≡ Some x) × R at x y
  left_from at y is =
      let short : at < length old = omega (arith, slice_get_within new at y is, changed.count) in
      let was = get_or old at y in
      let here : slice_get old at ≡ Some was = slice_get-get_or old at y short in
      let (other, there, change) = left_of at was here in
      (was, here, subst (R at was) (same_Some other y (sym there ∙ is)) change)
