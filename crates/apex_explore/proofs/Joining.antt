-- Expansions of states that stand one after the other make one.
use Rattle.std.proofs.Common.{◌≡◌, ℕ, ◌+◌, ◌<◌, ◌≤◌, List, [], ◌∷◌, ◌++◌, length, length-append, take, drop, Option, None, Some, refl, sym, ap, ◌∙◌, subst, inl, inr, arith}
use Rattle.std.proofs.lemmas.List.{flat_map_more, take-append-drop}
use Rattle.std.proofs.lemmas.Option.{slice_get_within}
use Rattle.std.specs.List.{slice_get}
use Rattle.apex_states.specs.Batches.{Copies}
use Rattle.apex_states.specs.Expansions.{found_in, IsWide}
use Rattle.apex_states.specs.Finds.{Found, IsFind}
use Rattle.apex_states.specs.Lists.{AllAre}
use Rattle.apex_states.specs.States.{Reached}
use Rattle.apex_states.specs.declared.expansions.Expansion.{Expansion}
use Rattle.apex_states.specs.declared.states.Origin.{Origin}
use Rattle.apex_states.proofs.Fronts.{at_old_place, get_append, get_right, IsFront-append}
use Rattle.apex_explore.specs.declared.fronts.Front.{Front}
use Rattle.apex_explore.specs.Levels.{Keeps}
use Rattle.apex_explore.specs.Parts.{Ends, Expanded, Fit, FitsOne, IsFrom}
use Rattle.apex_explore.specs.Systems.{Step}
use Rattle.apex_explore.proofs.Levels.{Keeps-widen}
use Rattle.apex_explore.proofs.Parting.{Keeps-there}

-- an expansion of no states
pub Expanded-none : (step : List ℕ → ℕ → Step (List ℕ)) (is_state : List ℕ → Type 0) (reached : Reached) (from : ℕ)
    → Expanded step is_state reached from from (record { finds = found_in reached.width []; end = from; hit = None })
Expanded-none step is_state reached from = record {
  copies = record { first = from; width = reached.width; states = [] };
  copied = record { first = refl; width = refl; whole = omega arith; same = λ at k is. cc };
  is = record {
    done = 0;
    finds = record { from = λ at n origin find. let none = find.state in cc; whole = λ at k choice below is. cc };
    filling = record { paired = refl; width = refl; states = λ place k is. cc };
    end = omega arith;
    ends = refl;
  };
}

module _ (step : List ℕ → ℕ → Step (List ℕ)) (is_state : List ℕ → Type 0) (reached : Reached) (from mid limit : ℕ) (found : Found) (other : Expansion)
    (first : Expanded step is_state reached from mid (record { finds = found; end = mid; hit = None }))
    (second : Expanded step is_state reached mid limit other) where
  abbrev copies : Copies
  copies = record { first = from; width = reached.width; states = first.copies.states ++ second.copies.states }

  abbrev both : Found
  both = record { width = found.width; states = found.states ++ other.finds.states; origins = found.origins ++ other.finds.origins }

  left_from : (n : List ℕ) (origin : Origin) → IsFrom step first.copies n origin → IsFrom step copies n origin
  left_from n origin is = record {
    at = is.at;
    k = is.k;
    place = omega (arith, is.place, first.copied.first);
    is = (IsFront-append first.copies.states second.copies.states).same is.at is.k is.is;
    leads = is.leads;
  }

  right_from : (n : List ℕ) (origin : Origin) → IsFrom step second.copies n origin → IsFrom step copies n origin
  right_from n origin is = record {
    at = length first.copies.states + is.at;
    k = is.k;
    place = omega (arith, is.place, second.copied.first, first.copied.whole);
    is = get_right first.copies.states second.copies.states is.at is.k is.is;
    leads = is.leads;
  }

  each_from : (at : ℕ) (n : List ℕ) (origin : Origin) → IsFind both at n origin → IsFrom step copies n origin
  each_from at n origin find =
      elim (get_append found.states other.finds.states at n find.state) [
        | inl before ↦
            let short : at < length found.origins = omega (arith, slice_get_within found.states at n before, first.is.filling.paired) in
            let here = at_old_place found.origins (found.origins ++ other.finds.origins) at origin (IsFront-append found.origins other.finds.origins) short find.origin in
            left_from n origin (first.is.finds.from at n origin (record { state = before; origin = here }))
        | inr (rest, e, there) ↦
            elim (get_append found.origins other.finds.origins at origin find.origin) [
              | inl before ↦ absurd (omega (arith, slice_get_within found.origins at origin before, e, first.is.filling.paired))
              | inr (rest', e', there') ↦
                  let same : rest' ≡ rest = omega (arith, e, e', first.is.filling.paired) in
                  right_from n origin (second.is.finds.from rest n origin (record { state = there; origin = ap (slice_get other.finds.origins) (sym same) ∙ there' }))
            ]
      ]

  each_kept : (at : ℕ) (k : List ℕ) (choice : ℕ) → at < length first.copies.states + second.is.done → slice_get copies.states at ≡ Some k → Keeps both.states (step k choice)
  each_kept at k choice below is =
      elim (get_append first.copies.states second.copies.states at k is) [
        | inl before ↦
            let ended : first.is.done ≡ length first.copies.states = first.is.ends in
            let done : at < first.is.done = omega (arith, ended, slice_get_within first.copies.states at k before) in
            Keeps-widen (step k choice) (IsFront-append found.states other.finds.states) (first.is.finds.whole at k choice done before)
        | inr (rest, e, there) ↦
            Keeps-there other.finds.states both.states (step k choice) (λ place n there. (length found.states + place, get_right found.states other.finds.states place n there))
            (second.is.finds.whole rest k choice (omega (arith, e, below)) there)
      ]

  both_end : (hit : Option ℕ) → Ends step second.copies.states second.is.done hit → Ends step copies.states (length first.copies.states + second.is.done) hit
  both_end None ends = omega (arith, ends, length-append first.copies.states second.copies.states)
  both_end (Some choice) (k, is, hit) = (k, get_right first.copies.states second.copies.states second.is.done k is, hit)

  pub Expanded-both : Expanded step is_state reached from limit (record { finds = both; end = other.end; hit = other.hit })
  Expanded-both = record {
    copies = copies;
    copied = record {
      first = refl;
      width = refl;
      whole = omega (arith, length-append first.copies.states second.copies.states, first.copied.whole, second.copied.whole);
      same = λ at k is. elim (get_append first.copies.states second.copies.states at k is) [
        | inl before ↦ first.copied.same at k before
        | inr (rest, e, there) ↦
            let place : from + at ≡ mid + rest = omega (arith, e, first.copied.whole) in
            ap (slice_get reached.states) place ∙ second.copied.same rest k there
      ];
    };
    is = record {
      done = length first.copies.states + second.is.done;
      finds = record { from = each_from; whole = each_kept };
      filling = record {
        paired = omega (arith, length-append found.states other.finds.states, length-append found.origins other.finds.origins, first.is.filling.paired, second.is.filling.paired);
        width = first.is.filling.width;
        states = λ place k is. elim (get_append found.states other.finds.states place k is) [
          | inl before ↦ first.is.filling.states place k before
          | inr (rest, e, there) ↦ second.is.filling.states rest k there
        ];
      };
      end = omega (arith, second.is.end, second.copied.first, first.copied.whole);
      ends = both_end other.hit second.is.ends;
    };
  }

-- Expansions up to the first that ends in a hit.

-- those before `place` make one, which ends at `end`
pub record IsReaching (step : List ℕ → ℕ → Step (List ℕ)) (is_state : List ℕ → Type 0) (reached : Reached) (from limit : ℕ) (expansions : List Expansion) (place end : ℕ) : Type 0 where
  pub start : ℕ → ℕ
  pub here : start place ≡ end
  pub last : start (length expansions) ≡ limit
  pub within : (at : ℕ) → start at ≤ limit
  pub each : (at : ℕ) (expansion : Expansion) → slice_get expansions at ≡ Some expansion → Expanded step is_state reached (start at) (start (at + 1)) expansion
  pub so_far : Expanded step is_state reached from end (record { finds = found_in reached.width (take place expansions); end = end; hit = None })

pub IsReaching-start : (step : List ℕ → ℕ → Step (List ℕ)) (is_state : List ℕ → Type 0) (reached : Reached) (front : Front) (limit : ℕ) (expansions : List Expansion)
    → Fit step is_state reached front limit expansions → IsReaching step is_state reached front.at limit expansions 0 front.at
IsReaching-start step is_state reached front limit expansions fit = record {
  start = fit.start;
  here = fit.first;
  last = fit.last;
  within = fit.within;
  each = fit.each;
  so_far = Expanded-none step is_state reached front.at;
}

module _ (step : List ℕ → ℕ → Step (List ℕ)) (is_state : List ℕ → Type 0) (reached : Reached) (front : Front) (limit : ℕ) (expansions : List Expansion) (place end : ℕ)
    (reaching : IsReaching step is_state reached front.at limit expansions place end) where
  module _ (expansion : Expansion) (is : slice_get expansions place ≡ Some expansion) (next : take (place + 1) expansions ≡ take place expansions ++ expansion ∷ []) where
    with_one : Expanded step is_state reached front.at (reaching.start (place + 1)) (record { finds = found_in reached.width (take (place + 1) expansions); end = expansion.end; hit = expansion.hit })
    with_one =
        let before = take place expansions in
        let one = subst (λ n. Expanded step is_state reached n (reaching.start (place + 1)) expansion) reaching.here (reaching.each place expansion is) in
        let Of : List (List ℕ) → List Origin → Type 0 = λ ks os. Expanded step is_state reached front.at (reaching.start (place + 1)) (record { finds = record { width = reached.width; states = ks; origins = os }; end = expansion.end; hit = expansion.hit }) in
        let joined = Expanded-both step is_state reached front.at end (reaching.start (place + 1)) (found_in reached.width before) expansion reaching.so_far one in
        let states = flat_map_more (λ (e : Expansion). e.finds.states) [] before expansion in
        let origins = flat_map_more (λ (e : Expansion). e.finds.origins) [] before expansion in
        let all = subst (Of (found_in reached.width (before ++ expansion ∷ [])).states) origins (subst (λ ks. Of ks ((found_in reached.width before).origins ++ expansion.finds.origins)) states joined) in
        subst (λ es. Expanded step is_state reached front.at (reaching.start (place + 1)) (record { finds = found_in reached.width es; end = expansion.end; hit = expansion.hit })) (sym next) all

    -- the expansion ends in a hit, or the search may stop behind it
    pub IsReaching-one : limit ≤ front.level_end → FitsOne step is_state reached front (record { finds = found_in reached.width (take (place + 1) expansions); end = expansion.end; hit = expansion.hit })
    IsReaching-one level = record { limit = reaching.start (place + 1); expanded = with_one; level = omega (arith, reaching.within (place + 1), level) }

    pub IsReaching-next : expansion.hit ≡ None → IsReaching step is_state reached front.at limit expansions (place + 1) expansion.end
    IsReaching-next none =
        let expanded = reaching.each place expansion is in
        let Is : Option ℕ → Type 0 = λ h. Ends step expanded.copies.states expanded.is.done h in
        let all : expanded.is.done ≡ length expanded.copies.states = subst Is none expanded.is.ends in
        let here : reaching.start (place + 1) ≡ expansion.end = omega (arith, expanded.is.end, all, expanded.copied.first, expanded.copied.whole) in
        let So : ℕ → Option ℕ → Type 0 = λ n h. Expanded step is_state reached front.at n (record { finds = found_in reached.width (take (place + 1) expansions); end = expansion.end; hit = h }) in
        record {
          start = reaching.start;
          here = here;
          last = reaching.last;
          within = reaching.within;
          each = reaching.each;
          so_far = subst (So expansion.end) none (subst (λ n. So n expansion.hit) here with_one);
        }

  pub IsReaching-end : (count : ℕ) → count ≡ place → place ≡ length expansions → limit ≤ front.level_end
      → FitsOne step is_state reached front (record { finds = found_in reached.width (take count expansions); end = end; hit = None }) × (end ≡ limit)
  IsReaching-end count same all level =
      let ended : end ≡ limit = sym reaching.here ∙ (ap reaching.start all ∙ reaching.last) in
      let So : ℕ → Type 0 = λ n. FitsOne step is_state reached front (record { finds = found_in reached.width (take n expansions); end = end; hit = None }) in
      (subst So (sym same) (record { limit = end; expanded = reaching.so_far; level = omega (arith, ended, level) }), ended)

-- the states of the expansions have as many words as those that were reached
pub Fit-wide : (step : List ℕ → ℕ → Step (List ℕ)) (is_state : List ℕ → Type 0) (reached : Reached) (front : Front) (limit : ℕ) (expansions : List Expansion) (count : ℕ)
    → Fit step is_state reached front limit expansions → AllAre (IsWide reached.width) (take count expansions)
Fit-wide step is_state reached front limit expansions count fit place expansion is =
    let there = (IsFront-append (take count expansions) (drop count expansions)).same place expansion is in
    let here : slice_get expansions place ≡ Some expansion = ap (λ es. slice_get es place) (sym (take-append-drop count expansions)) ∙ there in
    (fit.each place expansion here).is.filling.width
