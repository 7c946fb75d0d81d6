-- States that were found and whose roots are kept.
use Rattle.std.proofs.Common.{◌≡◌, ℕ, zero, suc, ◌+◌, ◌-◌, ◌/◌, ◌<◌, Bool, true, false, List, [], ◌∷◌, length, map, Some, refl, sym, ap, ◌∙◌, subst, arith, get_or, inl, inr}
use Rattle.std.proofs.lemmas.Bool.{cases_lt}
use Rattle.std.proofs.lemmas.List.{length-map}
use Rattle.std.proofs.lemmas.Option.{same_Some, slice_get-get_or, slice_get-map, slice_get_within}
use Rattle.std.specs.List.{slice_get}
use Rattle.std.specs.Option.{option_map}
use Rattle.apex_states.specs.declared.expansions.Expansion.{Expansion}
use Rattle.apex_states.specs.declared.halves.Half.{Half}
use Rattle.apex_states.specs.declared.states.Origin.{Origin}
use Rattle.apex_states.specs.Expansions.{found_in, states_of, IsWide}
use Rattle.apex_states.specs.Finds.{AreKept, AreThere, Found, GoesOnWith, IsFind}
use Rattle.apex_states.specs.Halves.{IsHalf, StillHas}
use Rattle.apex_states.specs.Index.{IsKnown}
use Rattle.apex_states.specs.Lists.{AllAre}
use Rattle.apex_states.specs.Keeping.{roots_found, AreAllNumbered, ArePaired, CanNumberAll}
use Rattle.apex_states.specs.States.{seen, state_of, states_in, IsRoot, IsStored, Reached}
use Rattle.apex_states.proofs.Fronts.{at_old_place}
use Rattle.apex_states.proofs.Numbering.{roots_numbered}
use Rattle.apex_states.proofs.Storing.{root_at, same_root, seen_held, state_at, AreRoots, IsStored-held}

-- the halves of the states that were found in expansions can be numbered
pub can_number_left : (roots : Reached) (left right : Half) (expansions : List Expansion) → IsStored roots left right → AllAre (IsWide (left.width + right.width)) expansions → CanNumberAll left expansions
can_number_left roots left right expansions stored wide = record {
  is_half = stored.left_half;
  each = λ place expansion is. rw (stored.left_side, wide place expansion is) stored.middle;
}

pub can_number_right : (roots : Reached) (left right : Half) (expansions : List Expansion) → IsStored roots left right → AllAre (IsWide (left.width + right.width)) expansions → CanNumberAll right expansions
can_number_right roots left right expansions stored wide = record {
  is_half = stored.right_half;
  each = λ place expansion is.
      let rest : right.width ≡ left.width + right.width - (left.width + right.width) / 2 = omega (arith, stored.middle) in
      rw (stored.right_side, wide place expansion is) rest;
}

single_back : (pairs : List ℕ) (place : ℕ) (row : List ℕ) → slice_get (map (λ pair. pair ∷ []) pairs) place ≡ Some row → (pair : ℕ) × (slice_get pairs place ≡ Some pair) × (row ≡ pair ∷ [])
single_back [] place row is = cc
single_back (pair ∷ pairs) zero row is = (pair, refl, sym (same_Some (pair ∷ []) row is))
single_back (pair ∷ pairs) (suc place) row is = single_back pairs place row is

-- the root of a state that was found
pub root_found : (pairs : List ℕ) (origins : List Origin) (place : ℕ) (origin : Origin) → place < length pairs → slice_get origins place ≡ Some origin → IsFind (roots_found pairs origins) place (get_or pairs place 0 ∷ []) origin
root_found pairs origins place origin short origin_is = record {
  state = slice_get-map (λ n. n ∷ []) pairs place ∙ ap (option_map (λ n. n ∷ [])) (slice_get-get_or pairs place 0 short);
  origin = origin_is;
}

module _ (roots roots' : Reached) (left right left' right' : Half) (found : Found) (pairs : List ℕ)
    (stored : IsStored roots left right) (has : StillHas left left') (has' : StillHas right right') (half : IsHalf left') (half' : IsHalf right')
    (count : length pairs ≡ length found.states)
    (is_root : (place pair : ℕ) (k : List ℕ) → slice_get pairs place ≡ Some pair → slice_get found.states place ≡ Some k → IsRoot left' right' (pair ∷ []) k) where
  on : IsStored roots left' right'
  on = IsStored-held roots left right left' right' stored has has' half half'

  -- the state of a row that was found
  find_at : (place : ℕ) (row : List ℕ) → slice_get (map (λ pair. pair ∷ []) pairs) place ≡ Some row → (k : List ℕ) × (slice_get found.states place ≡ Some k) × IsRoot left' right' row k
  find_at place row is =
      let (pair, there, row_is) = single_back pairs place row is in
      let short : place < length found.states = omega (arith, slice_get_within pairs place pair there, count) in
      let k = get_or found.states place [] in
      let here = slice_get-get_or found.states place [] short in
      (k, here, subst (λ r. IsRoot left' right' r k) (sym row_is) (is_root place pair k there here))

  -- the row of a state that was found
  row_at : (place : ℕ) (k : List ℕ) → slice_get found.states place ≡ Some k → (row : List ℕ) × (slice_get (map (λ pair. pair ∷ []) pairs) place ≡ Some row) × IsRoot left' right' row k
  row_at place k is =
      let short : place < length pairs = omega (arith, slice_get_within found.states place k is, count) in
      let there = slice_get-get_or pairs place 0 short in
      let pair = get_or pairs place 0 in
      (pair ∷ [], slice_get-map (λ n. n ∷ []) pairs place ∙ ap (option_map (λ n. n ∷ [])) there, is_root place pair k there is)

  module _ (goes_on : GoesOnWith (roots_found pairs found.origins) roots roots') where
    valid : AreRoots left' right' roots'.states
    valid place row there =
        elim (cases_lt place (length roots.states)) [
          | inl lt ↦ on.valid place row (at_old_place roots.states roots'.states place row goes_on.states_front lt there)
          | inr ge ↦
              let (at, other, from, find, is, origin_is) = goes_on.added place (omega (arith, ge)) (slice_get_within roots'.states place row there) in
              let (k, k_is, root) = find_at at other find.state in
              (k, subst (λ r. IsRoot left' right' r k) (same_Some other row (sym is ∙ there)) root)
        ]

    pub IsStored-all : IsStored roots' left' right'
    IsStored-all = record { left_half = half; right_half = half'; left_side = on.left_side; right_side = on.right_side; middle = on.middle; valid = valid }

    goes_on_seen : GoesOnWith found (seen roots left' right') (seen roots' left' right')
    goes_on_seen =
        let long = length-map roots.states (state_of left' right') in
        let long' = length-map roots'.states (state_of left' right') in
        record {
          states_front = record {
            same = λ place k is.
                let (row, there, root) = root_at left' right' roots.states place k on.valid is in
                state_at left' right' roots'.states place row k (goes_on.states_front.same place row there) root;
            longer = omega (arith, long, long', goes_on.states_front.longer);
          };
          origins_front = goes_on.origins_front;
          paired = goes_on.paired ∙ sym long';
          width = refl;
          room = goes_on.room;
          added = λ place above below.
              let (at, row, from, find, is, origin_is) = goes_on.added place (omega (arith, long, above)) (omega (arith, long', below)) in
              let (k, k_is, root) = find_at at row find.state in
              (at, k, from, record { state = k_is; origin = find.origin }, state_at left' right' roots'.states place row k is root, origin_is);
        }

    there_seen : (kept : Bool) → AreThere (roots_found pairs found.origins) roots' kept → AreThere found (seen roots' left' right') kept
    there_seen true there = λ place k is.
        let (row, row_is, root) = row_at place k is in
        let (at, known) = there place row row_is in
        (at, state_at left' right' roots'.states at row k known root)
    there_seen false (place, row, is, unknown, full) =
        let (k, k_is, root) = find_at place row is in
        let unknown' : IsKnown (states_in left' right' roots'.states) k → ⊥ = λ known.
        let (other, there, other_root) = root_at left' right' roots'.states known.0 k valid known.1 in
        let e : other ≡ row = same_root left' right' other row k half.exact half'.exact other_root root in
        unknown (known.0, there ∙ ap Some e) in
        (place, k, k_is, unknown', length-map roots'.states (state_of left' right') ∙ full)

  pub AreKept-seen : (kept : Bool) → AreKept (roots_found pairs found.origins) roots roots' kept → AreKept found (seen roots left right) (seen roots' left' right') kept
  AreKept-seen kept are =
      let Kept : Reached → Type 0 = λ r. AreKept found r (seen roots' left' right') kept in
      subst Kept (seen_held roots left right left' right' stored has has') (record { goes_on = goes_on_seen are.goes_on; there = there_seen are.goes_on kept are.there })

-- there are as many numbers of either side as states that were found in expansions
pub counts_found : (roots : Reached) (left right left' right' : Half) (expansions : List Expansion) (lefts rights : List ℕ)
    → AllAre (IsWide (left.width + right.width)) expansions
    → AreAllNumbered left' expansions lefts → AreAllNumbered right' expansions rights
    → (length lefts ≡ length (states_of expansions)) × (length rights ≡ length (states_of expansions))
counts_found roots left right left' right' expansions lefts rights wide lefts_are rights_are =
    ((lefts_are.whole (left.width + right.width) wide).count, (rights_are.whole (left.width + right.width) wide).count)

-- what came of states that were found in expansions, once their halves were numbered and their roots entered
pub kept_all : (roots roots' : Reached) (left right left' right' : Half) (expansions : List Expansion) (lefts rights pairs : List ℕ) (kept : Bool)
    → IsStored roots left right → StillHas left left' → StillHas right right' → IsHalf left' → IsHalf right'
    → AllAre (IsWide (left.width + right.width)) expansions
    → AreAllNumbered left' expansions lefts → AreAllNumbered right' expansions rights → ArePaired lefts rights pairs
    → AreKept (roots_found pairs (found_in (left.width + right.width) expansions).origins) roots roots' kept
    → IsStored roots' left' right' × AreKept (found_in (left.width + right.width) expansions) (seen roots left right) (seen roots' left' right') kept
kept_all roots roots' left right left' right' expansions lefts rights pairs kept stored has has' half half' wide lefts_are rights_are paired are =
    let found = found_in (left.width + right.width) expansions in
    let one = lefts_are.whole (left.width + right.width) wide in
    let other = rights_are.whole (left.width + right.width) wide in
    let count : length pairs ≡ length found.states = paired.count ∙ one.count in
    let is_root = roots_numbered left' right' found lefts rights pairs (has.side ∙ stored.left_side) (has'.side ∙ stored.right_side) (omega (arith, has.width, has'.width)) one other paired in (
      IsStored-all roots roots' left right left' right' found pairs stored has has' half half' count is_root are.goes_on,
      AreKept-seen roots roots' left right left' right' found pairs stored has has' half half' count is_root kept are,
    )
