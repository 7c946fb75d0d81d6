-- Lists in an order, as one process comes or goes, and the first and the next one in them.
use Rattle.std.proofs.Common.{◌≡◌, ◌≢◌, ℕ, Bool, true, false, List, [], ◌∷◌, ◌++◌, None, Some, inl, inr, sym, subst, ◌∙◌, arith}
use Rattle.std.proofs.lemmas.Bool.{cases_eq, cases_Bool}
use Rattle.std.proofs.lemmas.Option.{same_Some}
use Rattle.apex_links.specs.Neighbours.{stands_in, first_of, after_in, IsDistinct}
use Rattle.apex_links.specs.Links.{without}
use Rattle.apex_links.specs.Placing.{placed}
use Rattle.apex_links.specs.Sorted.{IsSorted}
use Rattle.apex_links.proofs.Places.{first_none, first_stands, stands_behind, stands_placed, stood_before}

module _ (before : ℕ → ℕ → Bool) where
  -- a process goes
  pub sorted_without : (p : ℕ) (xs : List ℕ) → IsSorted before xs → IsSorted before (without p xs)
  sorted_without p [] o = tt
  sorted_without p (x ∷ xs) o = elim (cases_eq p x) as (λ _. IsSorted before (without p (x ∷ xs))) [
    | inl same ↦
        let gone : without p (x ∷ xs) ≡ xs = grind (arith, same) in
        subst (λ (ys : List ℕ). IsSorted before ys) (sym gone) o.1
    | inr apart ↦
        let stays : without p (x ∷ xs) ≡ x ∷ without p xs = grind (arith, apart) in
        subst (λ (ys : List ℕ). IsSorted before ys) (sym stays) ((λ q here. o.0 q (stood_before p q xs here)), sorted_without p xs o.1)
  ]

  -- a process comes behind all others
  pub sorted_behind : (p : ℕ) (xs : List ℕ) → ((q : ℕ) → stands_in q xs ≡ true → before q p ≡ true) → IsSorted before xs → IsSorted before (xs ++ p ∷ [])
  sorted_behind p [] last o = ((λ q here. absurd (grind (arith, here))), tt)
  sorted_behind p (x ∷ xs) last o = (each, sorted_behind p xs (λ q here. last q (grind (arith, here))) o.1) where
    each : (q : ℕ) → stands_in q (xs ++ p ∷ []) ≡ true → before x q ≡ true
    each q here = elim (cases_eq q p) as (λ _. before x q ≡ true) [
      | inl same ↦ subst (λ (r : ℕ). before x r ≡ true) (sym same) (last x (grind arith))
      | inr apart ↦ o.0 q (grind (arith, apart, sym (stands_behind p q xs) ∙ here))
    ]

  -- a process comes before those that pass a test, and behind the others
  module _ (passes : ℕ → Bool) (p : ℕ) where
    pub sorted_placed : (xs : List ℕ) → ((q : ℕ) → stands_in q xs ≡ true → passes q ≡ true → before p q ≡ true)
        → ((q : ℕ) → stands_in q xs ≡ true → passes q ≡ false → before q p ≡ true)
        → ((q r : ℕ) → stands_in q xs ≡ true → stands_in r xs ≡ true → passes q ≡ true → before q r ≡ true → before p r ≡ true)
        → IsSorted before xs → IsSorted before (placed passes p xs)
    sorted_placed [] ahead behind over o = ((λ q here. absurd (grind (arith, here))), tt)
    sorted_placed (x ∷ xs) ahead behind over o = elim (cases_Bool (passes x)) as (λ _. IsSorted before (placed passes p (x ∷ xs))) [
      | inl is ↦ rw is (first is, o)
      | inr isnt ↦ rw isnt (
        second isnt,
        sorted_placed xs (λ q here. ahead q (grind (arith, here))) (λ q here. behind q (grind (arith, here)))
            (λ q r here there. over q r (grind (arith, here)) (grind (arith, there))) o.1,
      )
    ] where
      first : passes x ≡ true → (q : ℕ) → stands_in q (x ∷ xs) ≡ true → before p q ≡ true
      first is q here = elim (cases_eq q x) as (λ _. before p q ≡ true) [
        | inl same ↦ subst (λ (r : ℕ). before p r ≡ true) (sym same) (ahead x (grind arith) is)
        | inr apart ↦ over x q (grind arith) here is (o.0 q (grind (arith, here, apart)))
      ]

      second : passes x ≡ false → (q : ℕ) → stands_in q (placed passes p xs) ≡ true → before x q ≡ true
      second isnt q here = elim (cases_eq q p) as (λ _. before x q ≡ true) [
        | inl same ↦ subst (λ (r : ℕ). before x r ≡ true) (sym same) (behind x (grind arith) isnt)
        | inr apart ↦ o.0 q (grind (arith, apart, sym (stands_placed passes p q xs) ∙ here))
      ]

  -- the first comes before all others
  pub first_before : (p q : ℕ) (xs : List ℕ) → IsSorted before xs → first_of xs ≡ Some p → stands_in q xs ≡ true → q ≢ p → before p q ≡ true
  first_before p q [] o e here other = absurd (grind (arith, e))
  first_before p q (x ∷ xs) o e here other =
      let same = same_Some x p e in
      let apart : q ≢ x = λ f. other (f ∙ same) in
      subst (λ (y : ℕ). before y q ≡ true) same (o.0 q (grind (arith, here, apart)))

  -- an order in which no process comes before itself, and no two before each other
  module _ (one_way : (p q : ℕ) → before p q ≡ true → before q p ≡ false) where
    not_both : (p q : ℕ) → before p q ≡ true → before q p ≡ true → ⊥
    not_both p q one other = absurd (grind (arith, one_way p q one, other))

    pub sorted_distinct : (xs : List ℕ) → IsSorted before xs → IsDistinct xs
    sorted_distinct [] o = tt
    sorted_distinct (x ∷ xs) o = (
      elim (cases_Bool (stands_in x xs)) [
        | inl here ↦ absurd (not_both x x (o.0 x here) (o.0 x here))
        | inr out ↦ out
      ],
      sorted_distinct xs o.1,
    )

    -- the next one behind process p comes before all others behind p
    pub next_before : (p n q : ℕ) (xs : List ℕ) → IsSorted before xs → stands_in p xs ≡ true → after_in p xs ≡ Some n
        → stands_in q xs ≡ true → before p q ≡ true → q ≢ n → before n q ≡ true
    next_before p n q [] o stands e here later other = absurd (grind (arith, stands))
    next_before p n q (x ∷ xs) o stands e here later other = elim (cases_eq p x) [
      | inl same ↦
          let front : first_of xs ≡ Some n = grind (arith, e, same) in
          let apart : q ≢ x = λ f. not_both p q later (subst (λ (r : ℕ). before q r ≡ true) (f ∙ sym same) (subst (λ (r : ℕ). before r q ≡ true) (same ∙ sym f) later)) in
          first_before n q xs o.1 front (grind (arith, here, apart)) other
      | inr differs ↦
          let there : stands_in p xs ≡ true = grind (arith, stands, differs) in
          let apart : q ≢ x = λ f. not_both p q later (subst (λ (r : ℕ). before r p ≡ true) (sym f) (o.0 p there)) in
          next_before p n q xs o.1 there (grind (arith, e, differs)) (grind (arith, here, apart)) later other
    ]

    pub next_none : (p q : ℕ) (xs : List ℕ) → IsSorted before xs → stands_in p xs ≡ true → after_in p xs ≡ None
        → stands_in q xs ≡ true → before p q ≡ true → ⊥
    next_none p q [] o stands e here later = absurd (grind (arith, stands))
    next_none p q (x ∷ xs) o stands e here later = elim (cases_eq p x) [
      | inl same ↦
          let nobody : first_of xs ≡ None = grind (arith, e, same) in
          let mine : q ≡ x = elim (cases_eq q x) [
            | inl f ↦ f
            | inr apart ↦ absurd (grind (arith, here, apart, first_none q xs nobody))
          ] in
          not_both p q later (subst (λ (r : ℕ). before q r ≡ true) (mine ∙ sym same) (subst (λ (r : ℕ). before r q ≡ true) (same ∙ sym mine) later))
      | inr differs ↦
          let there : stands_in p xs ≡ true = grind (arith, stands, differs) in
          let apart : q ≢ x = λ f. not_both p q later (subst (λ (r : ℕ). before r p ≡ true) (sym f) (o.0 p there)) in
          next_none p q xs o.1 there (grind (arith, e, differs)) (grind (arith, here, apart)) later
    ]

  -- the next one is in the list
  pub next_stands : (p n : ℕ) (xs : List ℕ) → after_in p xs ≡ Some n → stands_in n xs ≡ true
  next_stands p n [] e = absurd (grind (arith, e))
  next_stands p n (x ∷ xs) e = elim (cases_eq p x) [
    | inl same ↦
        let there = first_stands n xs (grind (arith, e, same)) in
        grind (arith, there)
    | inr differs ↦
        let there = next_stands p n xs (grind (arith, e, differs)) in
        grind (arith, there)
  ]

  pub next_behind : (p n : ℕ) (xs : List ℕ) → IsSorted before xs → after_in p xs ≡ Some n → before p n ≡ true
  next_behind p n [] o e = absurd (grind (arith, e))
  next_behind p n (x ∷ xs) o e = elim (cases_eq p x) [
    | inl same ↦ subst (λ (r : ℕ). before r n ≡ true) (sym same) (o.0 n (first_stands n xs (grind (arith, e, same))))
    | inr differs ↦ next_behind p n xs o.1 (grind (arith, e, differs))
  ]

-- another order that agrees about those in the list
pub sorted_same : (before other : ℕ → ℕ → Bool) (xs : List ℕ) → ((p q : ℕ) → stands_in p xs ≡ true → stands_in q xs ≡ true → other p q ≡ before p q)
    → IsSorted before xs → IsSorted other xs
sorted_same before other [] same o = tt
sorted_same before other (x ∷ xs) same o = (
  λ q here. same x q (grind arith) (grind (arith, here)) ∙ o.0 q here,
  sorted_same before other xs (λ p q here there. same p q (grind (arith, here)) (grind (arith, there))) o.1,
)
