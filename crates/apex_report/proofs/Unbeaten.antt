-- The first job that no other one beats is the one that is left if each later job takes its place only
-- by beating it.
use Rattle.std.proofs.Common.{◌≡◌, Bool, true, false, ◌||◌, not, List, [], ◌∷◌, ◌++◌, None, Some, fold, refl, sym, ap, ◌∙◌, append_assoc, append-nil, inl, inr}
use Rattle.std.specs.Cmp.{IsStrictWeakOrder}
use Rattle.std.specs.List.{AllByRecursion, find, list_any}
use Rattle.std.proofs.lemmas.Bool.{cases_Bool, true_from_ne_false, true≢false}
use Rattle.std.proofs.lemmas.List.Folds.{list_any-append}
use Rattle.std.proofs.lemmas.List.MinMax.{IsStrictWeakOrder-by_number, IsStrictWeakOrder-flip}
use Rattle.std.proofs.lemmas.List.Sums.{fold-append}
use Rattle.apex_report.specs.Jobs.{response}
use Rattle.apex_report.specs.JobFigures.{best_of, faster, slower, worst_of}
use Rattle.apex_report.specs.Terms.{Job}
use Rattle.apex_report.specs.Unbeaten.{first_unbeaten, is_beaten, kept}

any_none : {X : Type 0} (p : X → Bool) (xs : List X) → AllByRecursion (λ x. p x ≡ false) xs → list_any p xs ≡ false
any_none p [] all = refl
any_none p (x ∷ xs) all = rw (all.0, any_none p xs all.1) refl

or_holds : (x y : Bool) → y ≡ true → (x || y) ≡ true
or_holds true y is = refl
or_holds false y is = is

-- a search passes over those that fail
passed_over : {X : Type 0} (p : X → Bool) (xs ys : List X) → AllByRecursion (λ x. p x ≡ false) xs → find p (xs ++ ys) ≡ find p ys
passed_over p [] ys all = refl
passed_over p (x ∷ xs) ys all = rw all.0 (passed_over p xs ys all.1)

all_of : {X : Type 0} (P Q : X → Type 0) → ((x : X) → P x → Q x) → (xs : List X) → AllByRecursion P xs → AllByRecursion Q xs
all_of P Q each [] all = tt
all_of P Q each (x ∷ xs) all = (each x all.0, all_of P Q each xs all.1)

all_joined : {X : Type 0} (P : X → Type 0) (xs ys : List X) → AllByRecursion P xs → AllByRecursion P ys → AllByRecursion P (xs ++ ys)
all_joined P [] ys first second = second
all_joined P (x ∷ xs) ys first second = (first.0, all_joined P xs ys first.1 second)

-- the value b is one of these, it beats each one before it, and none of those after it beats b
record IsKept {X : Type 0} (beats : X → X → Bool) (jobs : List X) (b : X) : Type 0 where
  front : List X
  back : List X
  split : jobs ≡ front ++ b ∷ back
  earlier : AllByRecursion (λ k. beats b k ≡ true) front
  later : AllByRecursion (λ k. beats k b ≡ false) back

module _ {X : Type 0} (beats : X → X → Bool) (order : IsStrictWeakOrder beats) where
  irreflexive : (j : X) → beats j j ≡ false
  irreflexive j = elim (cases_Bool (beats j j)) [ inl e ↦ order.one_way j j e | inr e ↦ e ]

  -- none of the jobs beats the one that is kept
  unbeaten : (jobs : List X) (b : X) → IsKept beats jobs b → AllByRecursion (λ k. beats k b ≡ false) jobs
  unbeaten jobs b is = rw is.split
      (all_joined (λ k. beats k b ≡ false) is.front (b ∷ is.back)
      (all_of (λ k. beats b k ≡ true) (λ k. beats k b ≡ false) (λ k. order.one_way b k) is.front is.earlier)
      (irreflexive b, is.later))

  beaten : (jobs : List X) (b k : X) → IsKept beats jobs b → beats b k ≡ true → not (is_beaten beats jobs k) ≡ false
  beaten jobs b k is by = rw (
    is.split,
    list_any-append (λ o. beats o k) is.front (b ∷ is.back),
    by,
    or_holds (list_any (λ o. beats o k) is.front) true refl,
  ) refl

  found : (jobs : List X) (b : X) → IsKept beats jobs b → first_unbeaten beats jobs ≡ Some b
  found jobs b is =
      let passes : X → Bool = λ k. not (is_beaten beats jobs k) in
      let b_passes : passes b ≡ true = rw (any_none (λ o. beats o b) jobs (unbeaten jobs b is)) refl in
      ap (find passes) is.split
      ∙ passed_over passes is.front (b ∷ is.back)
      (all_of (λ k. beats b k ≡ true) (λ k. passes k ≡ false) (λ k. beaten jobs b k is) is.front is.earlier)
      ∙ rw b_passes refl

  -- one job more takes the place if it beats the one before
  taken : (jobs : List X) (b j : X) → IsKept beats jobs b → beats j b ≡ true → IsKept beats (jobs ++ j ∷ []) j
  taken jobs b j is wins = record {
    front = jobs;
    back = [];
    split = refl;
    earlier = all_of (λ k. beats k b ≡ false) (λ k. beats j k ≡ true)
        (λ k holds. true_from_ne_false (beats j k) (λ loses. true≢false (sym wins ∙ order.chain j k b loses holds)))
        jobs (unbeaten jobs b is);
    later = tt;
  }

  left : (jobs : List X) (b j : X) → IsKept beats jobs b → beats j b ≡ false → IsKept beats (jobs ++ j ∷ []) b
  left jobs b j is loses = record {
    front = is.front;
    back = is.back ++ j ∷ [];
    split = ap (λ l. l ++ j ∷ []) is.split ∙ append_assoc is.front (b ∷ is.back) (j ∷ []);
    earlier = is.earlier;
    later = all_joined (λ k. beats k b ≡ false) is.back (j ∷ []) is.later (loses, tt);
  }

  goes_on : (later jobs : List X) (b : X) → IsKept beats jobs b
      → fold (kept beats) (Some b) later ≡ first_unbeaten beats (jobs ++ later)
  goes_on [] jobs b is = rw (append-nil jobs) (sym (found jobs b is))
  goes_on (j ∷ later) jobs b is = elim (cases_Bool (beats j b)) [
    | inl wins ↦ rw wins (goes_on later (jobs ++ j ∷ []) j (taken jobs b j is wins) ∙ ap (first_unbeaten beats) (append_assoc jobs (j ∷ []) later))
    | inr loses ↦ rw loses (goes_on later (jobs ++ j ∷ []) b (left jobs b j is loses) ∙ ap (first_unbeaten beats) (append_assoc jobs (j ∷ []) later))
  ]

  kept_one : (jobs : List X) → first_unbeaten beats jobs ≡ fold (kept beats) None jobs
  kept_one [] = refl
  kept_one (j ∷ later) =
      sym (goes_on later (j ∷ []) j (record { front = []; back = []; split = refl; earlier = tt; later = tt }))

  pub unbeaten_grows : (jobs more : List X)
      → first_unbeaten beats (jobs ++ more) ≡ fold (kept beats) (first_unbeaten beats jobs) more
  unbeaten_grows jobs more =
      kept_one (jobs ++ more) ∙ fold-append (kept beats) None jobs more
      ∙ ap (λ before. fold (kept beats) before more) (sym (kept_one jobs))

pub best_grows : (jobs more : List Job) → best_of (jobs ++ more) ≡ fold (kept faster) (best_of jobs) more
best_grows = unbeaten_grows faster (IsStrictWeakOrder-by_number response)

pub worst_grows : (jobs more : List Job) → worst_of (jobs ++ more) ≡ fold (kept slower) (worst_of jobs) more
worst_grows = unbeaten_grows slower (IsStrictWeakOrder-flip faster (IsStrictWeakOrder-by_number response))
