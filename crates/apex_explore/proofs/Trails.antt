-- The path that is read off the origins, from its end to its start.
use Rattle.std.proofs.Common.{◌≡◌, ℕ, zero, suc, ◌-◌, ◌<◌, List, [], ◌∷◌, ◌++◌, reverse, Some, sym, ◌∙◌, subst, arith, append_assoc}
use Rattle.std.proofs.lemmas.List.{append-nil, reverse-append}
use Rattle.std.proofs.lemmas.Option.{same_Some}
use Rattle.std.specs.List.{slice_get}
use Rattle.apex_states.specs.declared.states.Origin.{Origin}
use Rattle.apex_explore.specs.Levels.{IsTrail}

-- `path` has the choices from the end of the trail back to `at`, and `left` states are before that.
pub record IsReadTo (origins : List Origin) (depth place left at : ℕ) (path : List ℕ) : Type 0 where
  pub front : List ℕ
  pub before : IsTrail origins left at front
  pub whole : IsTrail origins depth place (front ++ reverse path)

pub IsReadTo-start : (origins : List Origin) (depth place : ℕ) (path : List ℕ) → IsTrail origins depth place path → IsReadTo origins depth place depth place []
IsReadTo-start origins depth place path trail = record { front = path; before = trail; whole = simp append-nil trail }

pub IsReadTo-place : (origins : List Origin) (depth place left at : ℕ) (path : List ℕ) → 0 < left → IsReadTo origins depth place left at path → (o : Origin) × (slice_get origins at ≡ Some o)
IsReadTo-place origins depth place zero at path positive read = absurd (omega arith)
IsReadTo-place origins depth place (suc left) at path positive read = (read.before.0, read.before.2)

pub IsReadTo-step : (origins : List Origin) (depth place left at : ℕ) (path : List ℕ) (o : Origin) → 0 < left → slice_get origins at ≡ Some o → IsReadTo origins depth place left at path → IsReadTo origins depth place (left - 1) o.parent (path ++ o.choice ∷ [])
IsReadTo-step origins depth place zero at path o positive is read = absurd (omega arith)
IsReadTo-step origins depth place (suc left) at path o positive is read =
    let same : Some read.before.0 ≡ Some o = sym read.before.2 ∙ is in
    let e : read.before.0 ≡ o = same_Some read.before.0 o same in
    let front : List ℕ = read.before.1 in
    let choice : ℕ = read.before.0.choice in
    let split : read.front ≡ front ++ choice ∷ [] = read.before.3 in
    let longer : read.front ++ reverse path ≡ front ++ reverse (path ++ choice ∷ []) = rw split (simp (append_assoc, reverse-append)) in
    let fewer : left ≡ suc left - 1 = omega arith in
    let Trails : List ℕ → Type 0 = λ p. IsTrail origins depth place p in
    let whole : IsTrail origins depth place (front ++ reverse (path ++ choice ∷ [])) = subst Trails longer read.whole in
    let Rest : ℕ → Type 0 = λ n. IsTrail origins n read.before.0.parent front in
    let done : IsReadTo origins depth place (suc left - 1) read.before.0.parent (path ++ choice ∷ []) = record { front = front; before = subst Rest fewer read.before.4; whole = whole } in
    let Reads : Origin → Type 0 = λ x. IsReadTo origins depth place (suc left - 1) x.parent (path ++ x.choice ∷ []) in
    subst Reads e done

pub IsReadTo-end : (origins : List Origin) (depth place at : ℕ) (path : List ℕ) → IsReadTo origins depth place 0 at path → IsTrail origins depth place (reverse path)
IsReadTo-end origins depth place at path read =
    let P : List ℕ → Type 0 = λ front. IsTrail origins depth place (front ++ reverse path) in
    subst P read.before read.whole
