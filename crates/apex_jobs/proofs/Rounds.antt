-- What threads found in a round.
use Rattle.std.proofs.Common.{◌≡◌, ℕ, zero, suc, ◌+◌, ◌*◌, ◌<◌, ◌≤◌, List, [], ◌∷◌, ◌++◌, length, None, Ok, Some, IfOk, Result, refl, sym, ap, ◌∙◌, subst, inl, inr, arith, length-append}
use Rattle.std.proofs.lemmas.Option.{same_Some, slice_get_within}
use Rattle.std.specs.List.{slice_get, slice_set}
use Rattle.std.specs.declared.alloc.AllocError.{AllocError}
use Rattle.apex_explore.specs.Desks.{IsDesk, IsMade}
use Rattle.apex_explore.specs.Parts.{Fit, IsExpansion}
use Rattle.apex_explore.specs.Systems.{Step}
use Rattle.apex_explore.specs.declared.desks.Desk.{Desk}
use Rattle.apex_explore.specs.declared.fronts.Front.{Front}
use Rattle.apex_states.specs.declared.expansions.Expansion.{Expansion}
use Rattle.apex_explore.proofs.Parting.{Expanded-later}
use Rattle.apex_jobs.specs.Rounds.{AreExpansions, AreGathered, AreLaidOut, IsDone, start_at}
use Rattle.apex_states.specs.Expansions.{IsWide}
use Rattle.apex_states.specs.Batches.{Copies}
use Rattle.apex_states.specs.Lists.{AllAre, IsFront}
use Rattle.apex_states.specs.States.{Reached}
use Rattle.apex_states.proofs.Probing.{last_or_before}
use Rattle.apex_states.proofs.Fronts.{set_back}

-- expansions of states that stay there
pub AreExpansions-later : (step : List ℕ → ℕ → Step (List ℕ)) (is_state : List ℕ → Type 0) (old new : Reached) (from limit : ℕ) (expansions : List Expansion)
    → IsFront old.states new.states → new.width ≡ old.width → AreExpansions step is_state old from limit expansions → AreExpansions step is_state new from limit expansions
AreExpansions-later step is_state old new from limit expansions front width are = record {
  start = are.start;
  starts = are.starts;
  each = λ place expansion is. Expanded-later step is_state (are.start place) (are.start (place + 1)) old new expansion front width (are.each place expansion is);
}

-- expansions of states from the front on fit
pub AreExpansions-fit : (step : List ℕ → ℕ → Step (List ℕ)) (is_state : List ℕ → Type 0) (reached : Reached) (front : Front) (limit : ℕ) (expansions : List Expansion)
    → limit ≤ front.level_end → AreExpansions step is_state reached front.at limit expansions → Fit step is_state reached front limit expansions
AreExpansions-fit step is_state reached front limit expansions level are = record {
  start = are.start;
  first = are.starts.first;
  last = are.starts.last;
  within = are.starts.within;
  level = level;
  each = are.each;
}

-- states of expansions have as many words as those that were expanded
pub AreExpansions-wide : (step : List ℕ → ℕ → Step (List ℕ)) (is_state : List ℕ → Type 0) (reached : Reached) (from limit : ℕ) (expansions : List Expansion)
    → AreExpansions step is_state reached from limit expansions → AllAre (IsWide reached.width) expansions
AreExpansions-wide step is_state reached from limit expansions are place expansion is = (are.each place expansion is).is.filling.width

-- What is gathered from desks.
module _ {W : Type 0} (word_count : ℕ) (is_workspace : W → Type 0) (old : List (Desk W)) where
  -- what was made at the desks before `place` is taken
  pub record AreGathering (desks : List (Desk W)) (expansions : List Expansion) (place : ℕ) : Type 0 where
    pub count : length expansions ≡ place
    pub each : (at : ℕ) (expansion : Expansion) → slice_get expansions at ≡ Some expansion → (desk : Desk W) × (slice_get old at ≡ Some desk) × (desk.made ≡ Some (Ok expansion))
    pub rest : (at : ℕ) (desk : Desk W) → place ≤ at → slice_get desks at ≡ Some desk → slice_get old at ≡ Some desk
    pub done : (at : ℕ) (desk : Desk W) → at < place → slice_get desks at ≡ Some desk → IsDesk word_count is_workspace desk

  pub AreGathering-start : AreGathering old [] 0
  AreGathering-start = record {
    count = refl;
    each = λ at expansion is. cc;
    rest = λ at desk above is. is;
    done = λ at desk below. absurd (omega arith);
  }

  -- one more is taken
  pub AreGathering-next : (desks : List (Desk W)) (expansions : List Expansion) (place : ℕ) (was desk : Desk W) (expansion : Expansion)
      → slice_get desks place ≡ Some was → was.made ≡ Some (Ok expansion) → IsDesk word_count is_workspace desk
      → AreGathering desks expansions place → AreGathering (slice_set desks place desk) (expansions ++ expansion ∷ []) (place + 1)
  AreGathering-next desks expansions place was desk expansion here made is so_far = record {
    count = omega (arith, length-append expansions (expansion ∷ []), so_far.count);
    each = λ at other there. elim (last_or_before expansions expansion at other there) [
      | inl before ↦ so_far.each at other before
      | inr (last, same) ↦
          let e : place ≡ at = omega (arith, last, so_far.count) in
          let at_old : slice_get old at ≡ Some was = rw (← e) (so_far.rest place was (omega arith) here) in
          (was, at_old, made ∙ ap (λ x. Some (Ok x)) same)
    ];
    rest = λ at other above there. elim (set_back desks place desk at other there) [
      | inl (same, _) ↦ absurd (omega (arith, same, above))
      | inr (_, before) ↦ so_far.rest at other (omega (arith, above)) before
    ];
    done = λ at other below there. elim (set_back desks place desk at other there) [
      | inl (_, same) ↦ subst (IsDesk word_count is_workspace) same is
      | inr (apart, before) ↦ so_far.done at other (omega (arith, apart, below)) before
    ];
  }

  pub AreGathering-end : (desks : List (Desk W)) (expansions : List Expansion) (place : ℕ) → place ≡ length old → AreGathering desks expansions place → AreGathered old expansions
  AreGathering-end desks expansions place end so_far = record { count = so_far.count ∙ end; each = so_far.each }

-- What is gathered from desks whose states were expanded.
module _ {W : Type 0} (step : List ℕ → ℕ → Step (List ℕ)) (word_count : ℕ) (is_state : List ℕ → Type 0) (is_workspace : W → Type 0) (old new : List (Desk W))
    (made : (place : ℕ) (desk : Desk W) → slice_get old place ≡ Some desk → (desk' : Desk W) × (slice_get new place ≡ Some desk') × IsMade step word_count is_state is_workspace desk.batch desk')
    (count : length new ≡ length old) where
  pub AreExpansions-gathered : (expansions : List Expansion) → AreGathered new expansions
      → (reached : Reached) (from limit : ℕ) → reached.width ≡ word_count → AreLaidOut is_state reached from limit old → AreExpansions step is_state reached from limit expansions
  AreExpansions-gathered expansions gathered reached from limit width laid = record {
    start = laid.start;
    starts = rw (gathered.count, count) laid.starts;
    each = λ place expansion is.
        let (desk', there', made_is) = gathered.each place expansion is in
        let short : place < length old = omega (arith, slice_get_within expansions place expansion is, gathered.count, count) in
        let (desk, there) = member old place short in
        let (other, there'', all) = made place desk there in
        let same : other ≡ desk' = same_Some other desk' (sym there'' ∙ there') in
        let result : all.made ≡ Ok expansion = same_Some all.made (Ok expansion) (sym all.is ∙ (ap (λ (d : Desk W). d.made) same ∙ made_is)) in
        let Is : Result Expansion AllocError → Type 0 = λ r. IfOk r (IsExpansion step word_count is_state desk.batch) in
        let expands : IsExpansion step word_count is_state desk.batch expansion = subst Is result all.expansion in
        record {
          copies = desk.batch;
          copied = laid.copied place desk there;
          is = subst (λ n. IsExpansion step n is_state desk.batch expansion) (sym width) expands;
        };
  }
    where
      member : {X : Type 0} (xs : List X) (place : ℕ) → place < length xs → (x : X) × (slice_get xs place ≡ Some x)
      member [] place short = absurd (omega arith)
      member (x ∷ xs) zero short = (x, refl)
      member (x ∷ xs) (suc place) short = member xs place (omega arith)

-- a desk at which an expansion was made, once that is taken
pub made_desk : {W : Type 0} (step : List ℕ → ℕ → Step (List ℕ)) (word_count : ℕ) (is_state : List ℕ → Type 0) (is_workspace : W → Type 0) (copies : Copies) (desk : Desk W) (expansion : Expansion)
    → IsMade step word_count is_state is_workspace copies desk → desk.made ≡ Some (Ok expansion) → IsDesk word_count is_workspace (record desk { made = None })
made_desk step word_count is_state is_workspace copies desk expansion made is =
    let result : made.made ≡ Ok expansion = same_Some made.made (Ok expansion) (sym made.is ∙ is) in
    let Is : Result Expansion AllocError → Type 0 = λ r. IfOk r (λ _. IsDesk word_count is_workspace desk) in
    let same : IsDesk word_count is_workspace desk = subst Is result made.desk_is in
    record { workspace = same.workspace; next = same.next; width = same.width }

-- What is gathered from desks at which states were laid out and expanded.
module _ {W : Type 0} (step : List ℕ → ℕ → Step (List ℕ)) (word_count : ℕ) (is_state : List ℕ → Type 0) (is_workspace : W → Type 0) (reached : Reached) (from limit size : ℕ) (desks : List (Desk W))
    (done : (place : ℕ) (desk : Desk W) → slice_get desks place ≡ Some desk → IsDone step word_count is_state is_workspace reached (start_at from limit size place) (start_at from limit size (place + 1)) desk) where
  pub AreExpansions-begun : (expansions : List Expansion) → from ≤ limit → limit ≤ from + size * length desks → reached.width ≡ word_count → AreGathered desks expansions → AreExpansions step is_state reached from limit expansions
  AreExpansions-begun expansions in_order whole width gathered = record {
    start = start_at from limit size;
    starts = rw gathered.count (record { first = omega (arith, in_order); last = omega (arith, whole); within = λ part. omega arith });
    each = λ place expansion is.
        let (desk, there, taken) = gathered.each place expansion is in
        let all = done place desk there in
        let result : all.made.made ≡ Ok expansion = same_Some all.made.made (Ok expansion) (sym all.made.is ∙ taken) in
        let Is : Result Expansion AllocError → Type 0 = λ r. IfOk r (IsExpansion step word_count is_state all.copies) in
        let expands : IsExpansion step word_count is_state all.copies expansion = subst Is result all.made.expansion in
        record {
          copies = all.copies;
          copied = all.copied;
          is = subst (λ n. IsExpansion step n is_state all.copies expansion) (sym width) expands;
        };
  }
