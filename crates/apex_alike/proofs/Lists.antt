-- Lists of records that correspond one by one.
use Rattle.std.proofs.Common.{◌≡◌, ℕ, suc, ◌+◌, ◌<◌, Bool, true, not, List, [], ◌∷◌, length, get_or, Option, None, Some, position, count_by, fold, if◌then◌else◌, refl, sym, ◌∙◌, arith}
use Rattle.std.specs.List.{prefix_len}
use Rattle.apex_laws.specs.Terms.{Record}
use Rattle.apex_machine.specs.processes.Roster.{nobody}
use Rattle.apex_machine.specs.processes.Choice.{place_of_least}
use Rattle.std.specs.Cmp.{IsStrictWeakOrder}
use Rattle.apex_machine.proofs.Choice.{place_first, place_found, place_none}

-- each record of the one list corresponds to that of the other at its place
abbrev pub Each : (Record → Record → Type 0) → List Record → List Record → Type 0
Each R [] [] = Unit {0}
Each R [] (s ∷ ss) = ⊥
Each R (r ∷ rs) [] = ⊥
Each R (r ∷ rs) (s ∷ ss) = R r s × Each R rs ss

pub each_of : (R : Record → Record → Type 0) (rs ss : List Record) → length ss ≡ length rs
    → ((p : ℕ) → R (get_or rs p nobody) (get_or ss p nobody)) → Each R rs ss
each_of R [] [] many all = tt
each_of R [] (s ∷ ss) many all = absurd (omega (arith, many))
each_of R (r ∷ rs) [] many all = absurd (omega (arith, many))
each_of R (r ∷ rs) (s ∷ ss) many all = (all 0, each_of R rs ss (omega (arith, many)) (λ p. all (suc p)))

-- two tests that agree on records that correspond
module _ (R : Record → Record → Type 0) (first second : Record → Bool)
    (same : (r s : Record) → R r s → second s ≡ first r) where
  same_prefix : (rs ss : List Record) → Each R rs ss
      → prefix_len (λ x. not (second x)) ss ≡ prefix_len (λ x. not (first x)) rs
  same_prefix [] [] all = refl
  same_prefix [] (s ∷ ss) all = absurd all
  same_prefix (r ∷ rs) [] all = absurd all
  same_prefix (r ∷ rs) (s ∷ ss) all = rw (same r s all.0, same_prefix rs ss all.1) refl

  pub same_position : (rs ss : List Record) → length ss ≡ length rs → Each R rs ss
      → position second ss ≡ position first rs
  same_position rs ss many all = rw (same_prefix rs ss all, many) refl

  same_sum : (rs ss : List Record) (n : ℕ) → Each R rs ss
      → fold (λ a x. a + (if second x then 1 else 0)) n ss ≡ fold (λ a x. a + (if first x then 1 else 0)) n rs
  same_sum [] [] n all = refl
  same_sum [] (s ∷ ss) n all = absurd all
  same_sum (r ∷ rs) [] n all = absurd all
  same_sum (r ∷ rs) (s ∷ ss) n all = rw (same r s all.0) (same_sum rs ss _ all.1)

  pub same_count : (rs ss : List Record) → Each R rs ss → count_by second ss ≡ count_by first rs
  same_count rs ss all = same_sum rs ss 0 all

-- two orders and two tests that agree on two lists find the same place
module _ (passes passes2 : Record → Bool) (before before2 : Record → Record → Bool) (rs ss : List Record)
    (many : length ss ≡ length rs)
    (same : (q : ℕ) → passes2 (get_or ss q nobody) ≡ passes (get_or rs q nobody))
    (order : (p q : ℕ) → p < length rs → q < length rs → passes (get_or rs p nobody) ≡ true → passes (get_or rs q nobody) ≡ true
    → before2 (get_or ss p nobody) (get_or ss q nobody) ≡ before (get_or rs p nobody) (get_or rs q nobody))
    (strict : IsStrictWeakOrder before) where
  least_found : (found : Option ℕ) → place_of_least passes before rs ≡ found → place_of_least passes2 before2 ss ≡ found
  least_found None is =
      let none = place_none passes before rs strict is in
      place_found passes2 before2 ss None (record { none = λ q below. same q ∙ none.none q (omega (arith, below, many)) })
  least_found (Some p) is =
      let first = place_first passes before rs strict p is in
      let within = first.within in
      place_found passes2 before2 ss (Some p) (record {
        within = omega (arith, within, many);
        passing = same p ∙ first.passing;
        least = λ q below passed.
            let inside : q < length rs = omega (arith, below, many) in
            order q p inside within (sym (same q) ∙ passed) first.passing ∙ first.least q inside (sym (same q) ∙ passed);
        first = λ q below passed.
            let inside : q < length rs = omega (arith, below, within) in
            order p q within inside first.passing (sym (same q) ∙ passed) ∙ first.first q below (sym (same q) ∙ passed);
      })

  pub same_least : place_of_least passes2 before2 ss ≡ place_of_least passes before rs
  same_least = least_found (place_of_least passes before rs) refl
