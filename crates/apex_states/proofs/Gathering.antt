-- States that were found and are kept, one after the other.
use Rattle.std.proofs.Common.{◌≡◌, ℕ, ◌+◌, ◌<◌, ◌≤◌, true, false, List, [], ◌∷◌, ◌++◌, length, Some, refl, sym, ap, ◌∙◌, subst, inl, inr, arith, length-append}
use Rattle.std.proofs.lemmas.Bool.{cases_lt}
use Rattle.std.proofs.lemmas.Option.{same_Some, slice_get_within}
use Rattle.std.specs.List.{slice_get}
use Rattle.apex_states.specs.Finds.{AreKept, Found, GoesOnWith, IsFind}
use Rattle.apex_states.specs.Index.{IsKnown}
use Rattle.apex_states.specs.Lists.{IsFront}
use Rattle.apex_states.specs.States.{IsKept, Reached, with_state}
use Rattle.apex_states.specs.declared.states.Origin.{Origin}
use Rattle.apex_states.proofs.Fronts.{IsFront-push, IsFront-refl, IsFront-trans}

pub get_last : {X : Type 0} (xs : List X) (y : X) → slice_get (xs ++ y ∷ []) (length xs) ≡ Some y
get_last [] y = refl
get_last (x ∷ xs) y = get_last xs y

-- those before `place` are kept
pub record IsKeeping (found : Found) (old now : Reached) (place : ℕ) : Type 0 where
  pub goes_on : GoesOnWith found old now
  pub there : (at : ℕ) (k : List ℕ) → at < place → slice_get found.states at ≡ Some k → IsKnown now.states k

pub IsKeeping-start : (found : Found) (old : Reached) → length old.origins ≡ length old.states → IsKeeping found old old 0
IsKeeping-start found old paired = record {
  goes_on = record {
    states_front = IsFront-refl old.states;
    origins_front = IsFront-refl old.origins;
    paired = paired;
    width = refl;
    room = refl;
    added = λ place above below. absurd (omega arith);
  };
  there = λ at k below. absurd (omega arith);
}

module _ (found : Found) (old now : Reached) (place : ℕ) (k : List ℕ) (origin : Origin) (find : IsFind found place k origin) (so_far : IsKeeping found old now place) where
  -- one more state is there
  there_next : (states : List (List ℕ)) → IsFront now.states states → IsKnown states k
      → (at : ℕ) (n : List ℕ) → at < place + 1 → slice_get found.states at ≡ Some n → IsKnown states n
  there_next states front known at n below is =
      elim (cases_lt at place) [
        | inl lt ↦ let was = so_far.there at n lt is in (was.0, front.same was.0 n was.1)
        | inr ge ↦
            let e : at ≡ place = omega arith in
            let here : slice_get found.states place ≡ Some n = ap (slice_get found.states) (sym e) ∙ is in
            subst (IsKnown states) (same_Some k n (sym find.state ∙ here)) known
      ]

  with_one : IsKeeping found old (with_state now k origin) (place + 1)
  with_one =
      let front = IsFront-push now.states k in
      let front' = IsFront-push now.origins origin in
      record {
        goes_on = record {
          states_front = IsFront-trans so_far.goes_on.states_front front;
          origins_front = IsFront-trans so_far.goes_on.origins_front front';
          paired = omega (arith, length-append now.states (k ∷ []), length-append now.origins (origin ∷ []), so_far.goes_on.paired);
          width = so_far.goes_on.width;
          room = so_far.goes_on.room;
          added = λ at above below.
              elim (cases_lt at (length now.states)) [
                | inl lt ↦
                    let was = so_far.goes_on.added at above lt in
                    (was.0, was.1, was.2, was.3, front.same at was.1 was.4, front'.same at was.2 was.5)
                | inr ge ↦
                    let e : at ≡ length now.states = omega (arith, length-append now.states (k ∷ [])) in
                    let e' : at ≡ length now.origins = omega (arith, e, so_far.goes_on.paired) in
                    (place, k, origin, find, ap (slice_get (now.states ++ k ∷ [])) e ∙ get_last now.states k, ap (slice_get (now.origins ++ origin ∷ [])) e' ∙ get_last now.origins origin)
              ];
        };
        there = there_next (now.states ++ k ∷ []) front (length now.states, get_last now.states k);
      }

  pub IsKeeping-next : (new : Reached) → IsKept now k origin true new → IsKeeping found old new (place + 1)
  IsKeeping-next new (inl (known, e)) =
      let same : IsKeeping found old now (place + 1) = record { goes_on = so_far.goes_on; there = there_next now.states (IsFront-refl now.states) known } in
      subst (λ r. IsKeeping found old r (place + 1)) (sym e) same
  IsKeeping-next new (inr (unknown, e)) = subst (λ r. IsKeeping found old r (place + 1)) (sym e) with_one

  pub IsKeeping-full : (new : Reached) → IsKept now k origin false new → AreKept found old new false
  IsKeeping-full new (unknown, full, e) =
      let same : AreKept found old now false = record { goes_on = so_far.goes_on; there = (place, k, find.state, unknown, full) } in
      subst (λ r. AreKept found old r false) (sym e) same

pub IsKeeping-end : (found : Found) (old now : Reached) (place : ℕ) → length found.states ≤ place → IsKeeping found old now place → AreKept found old now true
IsKeeping-end found old now place past so_far = record {
  goes_on = so_far.goes_on;
  there = λ at k is. so_far.there at k (omega (arith, slice_get_within found.states at k is)) is;
}
