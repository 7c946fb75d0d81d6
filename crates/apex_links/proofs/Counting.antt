-- A list of the places at which others pass a test is as long as the number of others that pass it.
use Rattle.std.proofs.Common.{◌≡◌, ℕ, suc, ◌+◌, ◌-◌, ◌<◌, Bool, true, false, List, [], ◌∷◌, length, get_or, inl, inr, refl, ap, sym, subst, ◌∙◌, arith}
use Rattle.std.specs.List.{count_by}
use Rattle.std.specs.Prelude.{cond}
use Rattle.std.proofs.lemmas.Bool.{cases_eq, cases_lt, cases_Bool}
use Rattle.std.proofs.lemmas.List.Sums.{sum_by-cons}
use Rattle.apex_links.specs.Neighbours.{stands_in, IsDistinct}
use Rattle.apex_links.specs.Links.{without}
use Rattle.apex_links.proofs.Places.{distinct_without, left_out, length_without, stays_without, without_gone}

-- a list without a process is empty
nobody_long : (xs : List ℕ) → ((p : ℕ) → stands_in p xs ≡ false) → length xs ≡ 0
nobody_long [] none = refl
nobody_long (x ∷ xs) none = absurd (grind (arith, none x))

module _ {X : Type 0} (passes : X → Bool) (d : X) (fails : passes d ≡ false) where
  -- the numbers of the list are the places, counted from k, of the others that pass the test
  record ArePlaces (k : ℕ) (others : List X) (xs : List ℕ) : Type 0 where
    from : (p : ℕ) → p < k → stands_in p xs ≡ false
    each : (i : ℕ) → stands_in (k + i) xs ≡ passes (get_or others i d)

  none_left : (k : ℕ) (xs : List ℕ) → ArePlaces k [] xs → (p : ℕ) → stands_in p xs ≡ false
  none_left k xs are p = elim (cases_lt p k) [
    | inl low ↦ are.from p low
    | inr high ↦
        let place : k + (p - k) ≡ p = omega (arith, high) in
        subst (λ (q : ℕ). stands_in q xs ≡ false) place (are.each (p - k) ∙ fails)
  ]

  first_place : (k : ℕ) (x : X) (others : List X) (xs : List ℕ) → ArePlaces k (x ∷ others) xs → stands_in k xs ≡ passes x
  first_place k x others xs are =
      let same : k + 0 ≡ k = omega arith in
      subst (λ (q : ℕ). stands_in q xs ≡ passes x) same (are.each 0)

  next_place : (k i : ℕ) (x : X) (others : List X) (xs : List ℕ) → ArePlaces k (x ∷ others) xs → stands_in (suc k + i) xs ≡ passes (get_or others i d)
  next_place k i x others xs are =
      let same : k + suc i ≡ suc k + i = omega arith in
      subst (λ (q : ℕ). stands_in q xs ≡ passes (get_or others i d)) same (are.each (suc i))

  -- those behind the first one
  rest_without : (k : ℕ) (x : X) (others : List X) (xs : List ℕ) → IsDistinct xs → ArePlaces k (x ∷ others) xs → ArePlaces (suc k) others (without k xs)
  rest_without k x others xs distinct are = record {
    from = λ p low. elim (cases_eq p k) [
      | inl e ↦ subst (λ (q : ℕ). stands_in q (without k xs) ≡ false) (sym e) (without_gone k xs distinct)
      | inr apart ↦ left_out k p xs (are.from p (omega (arith, low, apart)))
    ];
    each = λ i. stays_without k (suc k + i) xs (λ e. absurd (omega (arith, e))) ∙ next_place k i x others xs are;
  }

  rest_as_is : (k : ℕ) (x : X) (others : List X) (xs : List ℕ) → passes x ≡ false → ArePlaces k (x ∷ others) xs → ArePlaces (suc k) others xs
  rest_as_is k x others xs isnt are = record {
    from = λ p low. elim (cases_eq p k) [
      | inl e ↦ subst (λ (q : ℕ). stands_in q xs ≡ false) (sym e) (first_place k x others xs are ∙ isnt)
      | inr apart ↦ are.from p (omega (arith, low, apart))
    ];
    each = λ i. next_place k i x others xs are;
  }

  -- one more that passes the test, or that does not
  add_one : (whole first rest : ℕ) → whole ≡ first + rest → first ≡ 1 → whole ≡ suc rest
  add_one whole first rest sums one = omega (arith, sums, one)

  add_none : (whole first rest : ℕ) → whole ≡ first + rest → first ≡ 0 → whole ≡ rest
  add_none whole first rest sums none = omega (arith, sums, none)

  one_more : (x : X) (others : List X) → passes x ≡ true → count_by passes (x ∷ others) ≡ suc (count_by passes others)
  one_more x others is = add_one _ _ _ (sum_by-cons (λ (y : X). cond (passes y) 1 0) x others) (ap (λ (b : Bool). cond b 1 0) is)

  no_more : (x : X) (others : List X) → passes x ≡ false → count_by passes (x ∷ others) ≡ count_by passes others
  no_more x others isnt = add_none _ _ _ (sum_by-cons (λ (y : X). cond (passes y) 1 0) x others) (ap (λ (b : Bool). cond b 1 0) isnt)

  counted_from : (k : ℕ) (others : List X) (xs : List ℕ) → IsDistinct xs → ArePlaces k others xs → length xs ≡ count_by passes others
  counted_from k [] xs distinct are = nobody_long xs (none_left k xs are)
  counted_from k (x ∷ others) xs distinct are = elim (cases_Bool (passes x)) [
    | inl is ↦
        let rest = counted_from (suc k) others (without k xs) (distinct_without k xs distinct) (rest_without k x others xs distinct are) in
        let here = length_without k xs (first_place k x others xs are ∙ is) in
        sym here ∙ ap suc rest ∙ sym (one_more x others is)
    | inr isnt ↦
        let rest = counted_from (suc k) others xs distinct (rest_as_is k x others xs isnt are) in
        rest ∙ sym (no_more x others isnt)
  ]

  -- the numbers of the list are the places of the others that pass the test
  pub count_places : (others : List X) (xs : List ℕ) → IsDistinct xs → ((p : ℕ) → stands_in p xs ≡ passes (get_or others p d)) → length xs ≡ count_by passes others
  count_places others xs distinct each = counted_from 0 others xs distinct (record {
    from = λ p low. absurd (omega (arith, low));
    each = λ i.
        let same : 0 + i ≡ i = omega arith in
        subst (λ (q : ℕ). stands_in q xs ≡ passes (get_or others i d)) (sym same) (each i);
  })
