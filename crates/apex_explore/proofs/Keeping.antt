-- What a state that is kept leaves.
use Rattle.std.proofs.Common.{◌≡◌, ℕ, true, List, [], ◌∷◌, ◌++◌, length, ap, ◌∙◌, inl, inr}
use Rattle.std.proofs.lemmas.Option.{slice_get_within}
use Rattle.apex_states.specs.States.{IsKept, Reached}
use Rattle.apex_states.specs.declared.states.Origin.{Origin}
use Rattle.apex_explore.proofs.Growth.{IsLaid}

-- a state that is kept is laid
pub laid_from_kept : (old : Reached) (k : List ℕ) (origin : Origin) (new : Reached) → IsKept old k origin true new → IsLaid old.states old.origins k origin new.states new.origins
laid_from_kept old k origin new (inl (known, e)) =
    inl (record { place = known.0; within = slice_get_within old.states known.0 k known.1; is = known.1 }, ap (λ (s : Reached). s.states) e, ap (λ (s : Reached). s.origins) e)
laid_from_kept old k origin new (inr (fresh, e)) = inr (ap (λ (s : Reached). s.states) e, ap (λ (s : Reached). s.origins) e)

pub kept_width : (old : Reached) (k : List ℕ) (origin : Origin) (new : Reached) → IsKept old k origin true new → (new.width ≡ old.width) × (new.room ≡ old.room)
kept_width old k origin new (inl (known, e)) = (ap (λ (s : Reached). s.width) e, ap (λ (s : Reached). s.room) e)
kept_width old k origin new (inr (fresh, e)) = (ap (λ (s : Reached). s.width) e, ap (λ (s : Reached). s.room) e)

-- the first state that is kept is alone
pub kept_first : (old : Reached) (k : List ℕ) (origin : Origin) (new : Reached) → old.states ≡ [] → old.origins ≡ [] → IsKept old k origin true new → (new.states ≡ k ∷ []) × (length new.origins ≡ 1)
kept_first old k origin new states origins (inl (known, e)) = let none = rw states at known.1 in cc
kept_first old k origin new states origins (inr (fresh, e)) =
    let states_are : new.states ≡ old.states ++ k ∷ [] = ap (λ (s : Reached). s.states) e in
    let origins_are : new.origins ≡ old.origins ++ origin ∷ [] = ap (λ (s : Reached). s.origins) e in
    (states_are ∙ ap (λ xs. xs ++ k ∷ []) states, ap length (origins_are ∙ ap (λ xs. xs ++ origin ∷ []) origins))
