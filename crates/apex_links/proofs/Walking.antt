-- The place of a process by a test, and the walk that finds it.
use Rattle.std.proofs.Common.{◌≡◌, ◌≢◌, ℕ, zero, suc, ◌<◌, ◌≤◌, Bool, true, false, List, [], ◌∷◌, ◌++◌, length, map, set, get_or, slice_get, Option, None, Some, inl, inr, refl, ap, sym, subst, ◌∙◌, arith}
use Rattle.std.proofs.lemmas.Bool.{cases_eq, cases_Bool}
use Rattle.std.proofs.lemmas.Grind.{get_or-set_at}
use Rattle.std.proofs.lemmas.List.{ext_get_or, get_or-set_other, length-map, length-set}
use Rattle.std.proofs.lemmas.Option.{same_Some}
use Rattle.apex_links.specs.Neighbours.{stands_in, last_behind, last_of}
use Rattle.apex_links.specs.Links.{Links, list_at, with_list, put_before, inserted_before, IsSound}
use Rattle.apex_links.specs.Placing.{first_such, placed, IsRising}
use Rattle.apex_links.proofs.Neighbours.{last_in, last_some, last_stands}
use Rattle.apex_links.proofs.Places.{at_map, at_stands, put_out}

module _ (passes : ℕ → Bool) where
  -- the first that passes the test does
  such_passes : (q : ℕ) (xs : List ℕ) → first_such passes xs ≡ Some q → passes q ≡ true
  such_passes q [] e = absurd (grind (arith, e))
  such_passes q (x ∷ xs) e = elim (cases_Bool (passes x)) [
    | inl is ↦ subst (λ (y : ℕ). passes y ≡ true) (same_Some x q (rw is at e)) is
    | inr isnt ↦ such_passes q xs (rw isnt at e)
  ]

  -- a process is put before the first that passes the test, or behind all
  pub placed_before : (p q : ℕ) (xs : List ℕ) → first_such passes xs ≡ Some q → put_before q p xs ≡ placed passes p xs
  placed_before p q [] e = absurd (grind (arith, e))
  placed_before p q (x ∷ xs) e = elim (cases_Bool (passes x)) [
    | inl is ↦ grind (arith, is, same_Some x q (rw is at e))
    | inr isnt ↦
        let later = rw isnt at e in
        let apart : q ≢ x = λ same. absurd (grind (arith, isnt, subst (λ (y : ℕ). passes y ≡ true) same (such_passes q xs later))) in
        grind (arith, isnt, apart, placed_before p q xs later)
  ]

  pub placed_behind : (p : ℕ) (xs : List ℕ) → first_such passes xs ≡ None → xs ++ p ∷ [] ≡ placed passes p xs
  placed_behind p [] e = refl
  placed_behind p (x ∷ xs) e = elim (cases_Bool (passes x)) [
    | inl is ↦ absurd (grind (arith, rw is at e))
    | inr isnt ↦ rw isnt (ap (λ (ys : List ℕ). x ∷ ys) (placed_behind p xs (rw isnt at e)))
  ]

  -- if the last one of a list does not pass the test, none does
  last_fails : (b : Option ℕ) (p x : ℕ) (xs : List ℕ) → IsRising passes (x ∷ xs) → last_behind b (x ∷ xs) ≡ Some p → passes p ≡ false
      → first_such passes (x ∷ xs) ≡ None
  last_fails b p x [] rising e isnt = grind (arith, same_Some x p e, isnt)
  last_fails b p x (y ∷ ys) rising e isnt =
      let rest = last_fails (Some x) p y ys rising.1 e isnt in
      let there : stands_in p (y ∷ ys) ≡ true = last_stands p (Some x) y ys (rw e (grind arith)) in
      elim (cases_Bool (passes x)) [
        | inl is ↦ absurd (grind (arith, rising.0 is p there, isnt))
        | inr out ↦ rw out rest
      ]

  pub none_passes : (p : ℕ) (xs : List ℕ) → IsRising passes xs → last_of xs ≡ Some p → passes p ≡ false → first_such passes xs ≡ None
  none_passes p [] rising e isnt = refl
  none_passes p (x ∷ xs) rising e isnt = last_fails None p x xs rising e isnt

  pub nobody_passes : (xs : List ℕ) → last_of xs ≡ None → first_such passes xs ≡ None
  nobody_passes [] e = refl
  nobody_passes (x ∷ xs) e = absurd (grind (arith, last_some x xs, e))

  -- the first that passes the test, from this place of the list on
  abbrev pub such_from : ℕ → List ℕ → Option ℕ
  such_from zero xs = first_such passes xs
  such_from (suc k) [] = None
  such_from (suc k) (x ∷ xs) = such_from k xs

  pub such_end : (k : ℕ) (xs : List ℕ) → slice_get xs k ≡ None → such_from k xs ≡ None
  such_end zero [] e = refl
  such_end (suc k) [] e = refl
  such_end zero (x ∷ xs) e = absurd (grind (arith, e))
  such_end (suc k) (x ∷ xs) e = such_end k xs e

  pub such_here : (k x : ℕ) (xs : List ℕ) → slice_get xs k ≡ Some x → passes x ≡ true → such_from k xs ≡ Some x
  such_here k x [] e is = absurd (grind (arith, e))
  such_here zero x (y ∷ ys) e is = grind (arith, same_Some y x e, is)
  such_here (suc k) x (y ∷ ys) e is = such_here k x ys e is

  pub such_later : (k x : ℕ) (xs : List ℕ) → slice_get xs k ≡ Some x → passes x ≡ false → such_from k xs ≡ such_from (suc k) xs
  such_later k x [] e isnt = absurd (grind (arith, e))
  such_later zero x (y ∷ ys) e isnt = grind (arith, same_Some y x e, isnt)
  such_later (suc k) x (y ∷ ys) e isnt = such_later k x ys e isnt

  pub past_all : (k : ℕ) (xs : List ℕ) → length xs ≤ k → such_from k xs ≡ None
  past_all zero [] short = refl
  past_all zero (x ∷ xs) short = absurd (omega (arith, short))
  past_all (suc k) [] short = refl
  past_all (suc k) (x ∷ xs) short = past_all k xs (omega (arith, short))

-- a process is put before one in list l: that list changes, and no other
module _ (links : Links) (sound : IsSound links) (l p other : ℕ) (inside : l < length links.lists) (here : stands_in other (list_at links l) ≡ true) where
  elsewhere : (m : ℕ) → m ≢ l → stands_in other (list_at links m) ≡ false
  elsewhere m apart = elim (cases_Bool (stands_in other (list_at links m))) [
    | inl e ↦ absurd (apart (sound.apart m l other e here))
    | inr e ↦ e
  ]

  each : (m : ℕ) → get_or (map (put_before other p) links.lists) m [] ≡ get_or (set links.lists l (put_before other p (list_at links l))) m []
  each m = elim (cases_eq m l) as (λ _. get_or (map (put_before other p) links.lists) m [] ≡ get_or (set links.lists l (put_before other p (list_at links l))) m []) [
    | inl e ↦ rw (at_map (put_before other p) refl links.lists m, get_or-set_at links.lists l m (put_before other p (list_at links l)) [] e inside, e) refl
    | inr apart ↦ rw (at_map (put_before other p) refl links.lists m, get_or-set_other links.lists l m (put_before other p (list_at links l)) [] apart)
        (put_out other p (list_at links m) (elsewhere m apart))
  ]

  pub inserted_is : inserted_before links other p ≡ with_list links l (put_before other p (list_at links l))
  inserted_is = ap (λ (ls : List (List ℕ)). record { processes = links.processes; lists = ls })
      (ext_get_or [] _ _ (length-map links.lists _ ∙ sym (length-set links.lists l _)) (λ m _. each m))

-- a walk is at the process of this place of a list
module _ (links : Links) (sound : IsSound links) (l k p : ℕ) (at : Option ℕ) (is_at : at ≡ slice_get (list_at links l) k) (is : at ≡ Some p) where
  pub here : slice_get (list_at links l) k ≡ Some p
  here = sym is_at ∙ is

  pub here_stands : stands_in p (list_at links l) ≡ true
  here_stands = at_stands p (list_at links l) k here

  pub here_known : p < links.processes
  here_known = sound.known l p here_stands

-- the last of a list is known
pub last_known : (links : Links) → IsSound links → (l p : ℕ) → last_of (list_at links l) ≡ Some p → p < links.processes
last_known links sound l p e = sound.known l p (last_in p (list_at links l) (rw e (grind arith)))
