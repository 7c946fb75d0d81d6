-- Lists of processes by their places stay so as one process leaves its list and enters another.
use Rattle.std.proofs.Common.{◌≡◌, ◌≢◌, ℕ, ◌<◌, Bool, true, false, ◌||◌, List, [], ◌∷◌, length, Option, None, Some, inl, inr, refl, sym, ◌∙◌, arith}
use Rattle.std.specs.Prelude.{◌==◌}
use Rattle.std.proofs.lemmas.Bool.{cases_eq, cases_Bool, eqb-true, false≢true}
use Rattle.apex_links.specs.Neighbours.{stands_in, IsDistinct}
use Rattle.apex_links.specs.Links.{Links, list_at, with_list, without, removed}
use Rattle.apex_links.specs.Sorted.{IsSorted}
use Rattle.apex_links.proofs.Places.{at_removed, at_with, at_with_other, stays_removed, without_gone}
use Rattle.apex_links.proofs.Sorted.{sorted_same, sorted_without}
use Rattle.apex_process.specs.Lists.{is_list, AreLists}

-- the lists without process p
pub record AreListsBut (place : ℕ → Option ℕ) (before : ℕ → ℕ → Bool) (links : Links) (p : ℕ) : Type 0 where
  pub gone : (l : ℕ) → stands_in p (list_at links l) ≡ false
  pub members : (q l : ℕ) → q ≢ p → stands_in q (list_at links l) ≡ is_list l (place q)
  pub sorted : (l : ℕ) → IsSorted before (list_at links l)

-- no process is twice in an order in which none comes before itself
pub sorted_distinct : (before : ℕ → ℕ → Bool) → ((q : ℕ) → before q q ≡ false) → (ps : List ℕ) → IsSorted before ps → IsDistinct ps
sorted_distinct before apart [] sorted = tt
sorted_distinct before apart (x ∷ xs) sorted = (
  elim (cases_Bool (stands_in x xs)) [
    | inl e ↦ absurd (false≢true (sym (apart x) ∙ sorted.0 x e))
    | inr e ↦ e
  ],
  sorted_distinct before apart xs sorted.1,
)

-- a place in this list is this one
pub place_of : (l : ℕ) (o : Option ℕ) → is_list l o ≡ true → o ≡ Some l
place_of l None e = absurd (false≢true e)
place_of l (Some m) e = let same = eqb-true l m e in rw same refl

pub is_here : (l : ℕ) (o : Option ℕ) → o ≡ Some l → is_list l o ≡ true
is_here l o e = rw e (grind arith)

pub not_here : (l m : ℕ) (o : Option ℕ) → o ≡ Some m → l ≢ m → is_list l o ≡ false
not_here l m o e apart = rw e (grind (arith, apart))

module _ (place then : ℕ → Option ℕ) (before after : ℕ → ℕ → Bool) (links : Links) (are : AreLists place before links) where
  there : (l q : ℕ) → stands_in q (list_at links l) ≡ true → place q ≡ Some l
  there l q stands = place_of l (place q) (sym (are.members q l) ∙ stands)

  -- process p leaves
  pub leave_keeps : (p : ℕ) → ((q : ℕ) → before q q ≡ false) → ((q : ℕ) → q ≢ p → then q ≡ place q)
      → ((q r : ℕ) → q ≢ p → r ≢ p → after q r ≡ before q r) → AreListsBut then after (removed links p) p
  leave_keeps p itself others order = record {
    gone = gone;
    members = λ q l apart. rw (stays_removed links p q l apart, others q apart) (are.members q l);
    sorted = λ l. rw (at_removed links p l) (sorted_same before after (without p (list_at links l))
        (λ q r stands stands'. order q r (apart_from l q stands) (apart_from l r stands'))
        (sorted_without before p (list_at links l) (are.sorted l)));
  } where
    taken_out : (l : ℕ) → stands_in p (without p (list_at links l)) ≡ false
    taken_out l = without_gone p (list_at links l) (sorted_distinct before itself (list_at links l) (are.sorted l))

    gone : (l : ℕ) → stands_in p (list_at (removed links p) l) ≡ false
    gone l = rw (at_removed links p l) (taken_out l)

    apart_from : (l q : ℕ) → stands_in q (without p (list_at links l)) ≡ true → q ≢ p
    apart_from l q stands e = false≢true (sym (taken_out l) ∙ rw e at stands)

  -- no process's place changes
  pub stay_keeps : ((q : ℕ) → then q ≡ place q) → ((l q r : ℕ) → place q ≡ Some l → place r ≡ Some l → after q r ≡ before q r) → AreLists then after links
  stay_keeps others order = record {
    members = λ q l. rw (others q) (are.members q l);
    sorted = λ l. sorted_same before after (list_at links l) (λ q r stands stands'. order l q r (there l q stands) (there l r stands')) (are.sorted l);
  }

module _ (place : ℕ → Option ℕ) (before : ℕ → ℕ → Bool) (links : Links) (p : ℕ) (but : AreListsBut place before links p) where
  -- process p, which has no place, stays outside
  pub rest_keeps : place p ≡ None → AreLists place before links
  rest_keeps none = record {
    members = λ q l. elim (cases_eq q p) as (λ _. stands_in q (list_at links l) ≡ is_list l (place q)) [
      | inl e ↦ rw (e, none) (but.gone l)
      | inr apart ↦ but.members q l apart
    ];
    sorted = but.sorted;
  }

  -- a process in a list is another one than p, and has its place there
  pub other_there : (q l : ℕ) → stands_in q (list_at links l) ≡ true → (q ≢ p) × (place q ≡ Some l)
  other_there q l stands =
      let apart : q ≢ p = λ e. false≢true (sym (but.gone l) ∙ rw e at stands) in
      (apart, place_of l (place q) (sym (but.members q l apart) ∙ stands))

  -- process p goes into the list of its place
  pub enter_keeps : (l : ℕ) (xs : List ℕ) → place p ≡ Some l → l < length links.lists
      → ((q : ℕ) → stands_in q xs ≡ (q == p || stands_in q (list_at links l))) → IsSorted before xs → AreLists place before (with_list links l xs)
  enter_keeps l xs here known has sorted = record {
    members = λ q m. elim (cases_eq m l) as (λ _. stands_in q (list_at (with_list links l xs) m) ≡ is_list m (place q)) [
      | inl e ↦ rw (e, at_with links l xs known, has q) (at_own q)
      | inr other ↦ rw (at_with_other links l m xs other) (elsewhere q m other)
    ];
    sorted = λ m. elim (cases_eq m l) as (λ _. IsSorted before (list_at (with_list links l xs) m)) [
      | inl e ↦ rw (e, at_with links l xs known) sorted
      | inr other ↦ rw (at_with_other links l m xs other) (but.sorted m)
    ];
  } where
    at_own : (q : ℕ) → (q == p || stands_in q (list_at links l)) ≡ is_list l (place q)
    at_own q = elim (cases_eq q p) as (λ _. (q == p || stands_in q (list_at links l)) ≡ is_list l (place q)) [
      | inl f ↦ rw (f, is_here l (place p) here) (grind arith)
      | inr apart ↦ rw (but.members q l apart) (grind (arith, apart))
    ]

    elsewhere : (q m : ℕ) → m ≢ l → stands_in q (list_at links m) ≡ is_list m (place q)
    elsewhere q m other = elim (cases_eq q p) as (λ _. stands_in q (list_at links m) ≡ is_list m (place q)) [
      | inl f ↦ rw (f, not_here m l (place p) here other) (but.gone m)
      | inr apart ↦ but.members q m apart
    ]
