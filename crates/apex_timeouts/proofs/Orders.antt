-- The order of the instants stays as a process comes or goes.
use Rattle.std.proofs.Common.{◌≡◌, ◌≢◌, ℕ, ◌<◌, Bool, true, false, ◌||◌, ◌&&◌, ◌==◌, List, [], ◌∷◌, length, set, Option, None, Some, IfSome, refl, sym, subst, ◌∙◌, arith}
use Rattle.std.specs.Prelude.{nat_lt}
use Rattle.std.proofs.lemmas.Grind.{get_or-set_at}
use Rattle.std.proofs.lemmas.List.{get_or-set_other, length-set}
use Rattle.apex_links.specs.Neighbours.{stands_in, first_of}
use Rattle.apex_links.specs.Links.{Links, list_at, with_list, removed, IsSound}
use Rattle.apex_links.specs.Placing.{placed, IsRising}
use Rattle.apex_links.proofs.Places.{at_removed, at_with, as_many_removed, as_many_with, first_stands}
use Rattle.apex_links.proofs.Sorted.{sorted_placed, sorted_same, sorted_without}
use Rattle.apex_timeouts.specs.Timeline.{instant_of, is_after, is_later, IsOrdered, AreTimed}

-- a pair of an instant and a number comes later than another one
abbrev pub pair_later : ℕ → ℕ → ℕ → ℕ → Bool
pair_later p i q j = nat_lt i j || i == j && nat_lt p q

later_later : (p i q j r k : ℕ) → pair_later p i q j ≡ true → pair_later q j r k ≡ true → pair_later p i r k ≡ true
later_later p i q j r k one two = grind (arith, one, two)

later_else : (p i q j : ℕ) → p ≢ q → pair_later p i q j ≡ false → pair_later q j p i ≡ true
later_else p i q j apart isnt = grind (arith, apart, isnt)

-- a process in a list is another one than a process outside it
apart_from : (p q : ℕ) (xs : List ℕ) → stands_in p xs ≡ false → stands_in q xs ≡ true → q ≢ p
apart_from p q xs out here same = absurd (grind (arith, subst (λ (x : ℕ). stands_in x xs ≡ true) same here, out))

-- process p has another instant, and is not on the line
module _ (instants : List ℕ) (p i : ℕ) where
  abbrev news : List ℕ
  news = set instants p i

  other_instant : (q : ℕ) → q ≢ p → instant_of news q ≡ instant_of instants q
  other_instant q apart = get_or-set_other instants p q i 0 apart

  -- the processes of a list without p keep their order
  same_order : (xs : List ℕ) → stands_in p xs ≡ false → (q r : ℕ) → stands_in q xs ≡ true → stands_in r xs ≡ true → is_after news q r ≡ is_after instants q r
  same_order xs out q r here there = rw (other_instant q (apart_from p q xs out here), other_instant r (apart_from p r xs out there)) refl

  module _ (known : p < length instants) where
    own_instant : instant_of news p ≡ i
    own_instant = get_or-set_at instants p p i 0 refl known

    -- it comes to its place
    pub ordered_placed : (xs : List ℕ) → stands_in p xs ≡ false → IsOrdered instants xs → IsOrdered news (placed (is_later instants p i) p xs)
    ordered_placed xs out o = sorted_placed (is_after news) (is_later instants p i) p xs ahead behind over (sorted_same (is_after instants) (is_after news) xs (same_order xs out) o) where
      ahead : (q : ℕ) → stands_in q xs ≡ true → is_later instants p i q ≡ true → is_after news p q ≡ true
      ahead q here is = rw (own_instant, other_instant q (apart_from p q xs out here)) is

      behind : (q : ℕ) → stands_in q xs ≡ true → is_later instants p i q ≡ false → is_after news q p ≡ true
      behind q here isnt =
          let mine : q ≢ p = apart_from p q xs out here in
          rw (own_instant, other_instant q mine) (later_else p i q (instant_of instants q) (λ e. mine (sym e)) isnt)

      over : (q r : ℕ) → stands_in q xs ≡ true → stands_in r xs ≡ true → is_later instants p i q ≡ true → is_after news q r ≡ true → is_after news p r ≡ true
      over q r here there is later =
          rw (own_instant, other_instant r (apart_from p r xs out there)) (later_later p i q (instant_of instants q) r (instant_of instants r) is
          (rw (other_instant q (apart_from p q xs out here), other_instant r (apart_from p r xs out there)) at later))

-- the processes behind one that comes later than process p at this instant come later too
pub rising_line : (instants : List ℕ) (p i : ℕ) (xs : List ℕ) → IsOrdered instants xs → IsRising (is_later instants p i) xs
rising_line instants p i [] o = tt
rising_line instants p i (x ∷ xs) o = (
  λ is q here. later_later p i x (instant_of instants x) q (instant_of instants q) is (o.0 q here),
  rising_line instants p i xs o.1,
)

-- the processes of the one list, after a call
pub timed_placed : (links : Links) (instants : List ℕ) (p i : ℕ) → AreTimed links instants → p < length instants → stands_in p (list_at links 0) ≡ false
    → AreTimed (with_list links 0 (placed (is_later instants p i) p (list_at links 0))) (set instants p i)
timed_placed links instants p i timed known out =
    let here = at_with links 0 (placed (is_later instants p i) p (list_at links 0)) (omega (arith, timed.one)) in
    record {
      one = as_many_with links 0 _ ∙ timed.one;
      all = timed.all ∙ sym (length-set instants p i);
      ordered = rw here (ordered_placed instants p i known (list_at links 0) out timed.ordered);
    }

pub timed_removed : (links : Links) (instants : List ℕ) (p : ℕ) → AreTimed links instants → AreTimed (removed links p) instants
timed_removed links instants p timed = record {
  one = as_many_removed links p ∙ timed.one;
  all = timed.all;
  ordered = rw (at_removed links p 0) (sorted_without (is_after instants) p (list_at links 0) timed.ordered);
}

-- the first on the line has an instant
pub first_known : (links : Links) (instants : List ℕ) → AreTimed links instants → IsSound links → (found : Option ℕ)
    → found ≡ first_of (list_at links 0) → IfSome found (λ p. p < length instants)
first_known links instants timed sound None e = tt
first_known links instants timed sound (Some p) e =
    omega (arith, timed.all, sound.known 0 p (first_stands p (list_at links 0) (sym e)))
