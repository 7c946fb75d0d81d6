-- Lists whose elements know their places.
use Rattle.std.proofs.Common.{◌≡◌, ◌≢◌, ℕ, zero, suc, ◌+◌, ◌<◌, List, [], ◌∷◌, length, drop, set, get_or, refl, ap, sym, ◌∙◌, arith, add-one, add-zero, inl, inr, ◌++◌, take, slice_get, Some}
use Rattle.std.proofs.Math.Seq.{drop-cons}
use Rattle.std.proofs.lemmas.List.{ext_get_or, length-set, get_or-set_other}
use Rattle.std.proofs.lemmas.Grind.{get_or-set_at}
use Rattle.std.proofs.lemmas.Bool.{cases_eq}
use Rattle.std.proofs.lemmas.Option.{same_Some}
use Rattle.apex_types.specs.Places.{map_places}

pub length-map_places : {A B : Type 0} (f : ℕ → A → B) (p : ℕ) (xs : List A) → length (map_places f p xs) ≡ length xs
length-map_places f p [] = refl
length-map_places f p (x ∷ xs) = ap suc (length-map_places f (p + 1) xs)

pub get_or-map_places : {A B : Type 0} (f : ℕ → A → B) (p : ℕ) (xs : List A) (i : ℕ) (d : A) (e : B)
    → i < length xs → get_or (map_places f p xs) i e ≡ f (p + i) (get_or xs i d)
get_or-map_places f p [] i d e h = absurd (omega (arith, h))
get_or-map_places f p (x ∷ xs) zero d e h = let z : p + 0 ≡ p = omega arith in rw z refl
get_or-map_places f p (x ∷ xs) (suc i) d e h =
    let z : p + suc i ≡ p + 1 + i = omega arith in rw z (get_or-map_places f (p + 1) xs i d e (omega (arith, h)))

-- the values of the elements from place i on
pub map_places-drop : {A B : Type 0} (f : ℕ → A → B) (p : ℕ) (xs : List A) (i : ℕ) (d : A)
    → i < length xs → map_places f p (drop i xs) ≡ f p (get_or xs i d) ∷ map_places f (p + 1) (drop (i + 1) xs)
map_places-drop f p xs i d h = rw (drop-cons xs i d h, add-one i) refl

-- two rules that agree on each element give the same values
pub map_places_same : {A B : Type 0} (f g : ℕ → A → B) (xs : List A) (d : A) (e : B)
    → ((k : ℕ) → k < length xs → f k (get_or xs k d) ≡ g k (get_or xs k d)) → map_places f 0 xs ≡ map_places g 0 xs
map_places_same f g xs d e agree = ext_get_or e _ _
    (length-map_places f 0 xs ∙ sym (length-map_places g 0 xs))
    (λ k h. let within : k < length xs = omega (arith, h, length-map_places f 0 xs) in
    let z : 0 + k ≡ k = omega arith in
    rw (get_or-map_places f 0 xs k d e within, get_or-map_places g 0 xs k d e within, z) (agree k within))

-- two rules that agree on each element but one, whose value is set
pub set-map_places : {A B : Type 0} (f g : ℕ → A → B) (xs : List A) (i : ℕ) (y : B) (d : A) (e : B)
    → i < length xs → y ≡ g i (get_or xs i d)
    → ((k : ℕ) → k < length xs → k ≢ i → f k (get_or xs k d) ≡ g k (get_or xs k d))
    → set (map_places f 0 xs) i y ≡ map_places g 0 xs
set-map_places f g xs i y d e here is_y agree = ext_get_or e _ _
    (length-set _ i y ∙ length-map_places f 0 xs ∙ sym (length-map_places g 0 xs))
    (λ k h.
    let within : k < length xs = omega (arith, h, length-set (map_places f 0 xs) i y, length-map_places f 0 xs) in
    let z : 0 + k ≡ k = omega arith in
    let new : get_or (map_places g 0 xs) k e ≡ g k (get_or xs k d) = rw (get_or-map_places g 0 xs k d e within, z) refl in
    elim (cases_eq k i) as (λ _. get_or (set (map_places f 0 xs) i y) k e ≡ get_or (map_places g 0 xs) k e) [
      | inl same ↦
          let there : i < length (map_places f 0 xs) = omega (arith, length-map_places f 0 xs, here) in
          get_or-set_at (map_places f 0 xs) i k y e same there ∙ is_y ∙ rw (← same) (sym new)
      | inr differs ↦
          let old : get_or (map_places f 0 xs) k e ≡ f k (get_or xs k d) = rw (get_or-map_places f 0 xs k d e within, z) refl in
          get_or-set_other (map_places f 0 xs) i k y e differs ∙ old ∙ agree k within differs ∙ sym new
    ])

module _ {A B : Type 0} (f : ℕ → A → B) where
  -- one element more, if the first one is at place q
  places_more : (q p : ℕ) (xs : List A) (x : A) → slice_get xs p ≡ Some x → map_places f q (take (suc p) xs) ≡ map_places f q (take p xs) ++ f (q + p) x ∷ []
  places_more q p [] x here = cc
  places_more q zero (y ∷ xs) x here = rw (add-zero q, same_Some y x here)
  places_more q (suc p) (y ∷ xs) x here =
      let e : q + 1 + p ≡ q + suc p = omega arith in rw (places_more (q + 1) p xs x here, e)

  pub map_places_more : (p : ℕ) (xs : List A) (x : A) → slice_get xs p ≡ Some x → map_places f 0 (take (p + 1) xs) ≡ map_places f 0 (take p xs) ++ f p x ∷ []
  map_places_more p xs x here =
      let e : p + 1 ≡ suc p = omega arith in let z : 0 + p ≡ p = omega arith in rw (e, places_more 0 p xs x here, z)
