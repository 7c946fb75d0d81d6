-- States that are laid out on desks.
use Rattle.std.proofs.Common.{◌≡◌, ℕ, ◌+◌, ◌*◌, ◌^◌, ◌≤◌, List, [], ◌∷◌, ◌++◌, length, Some, IfOk, Result, ◌∙◌, subst, inl, inr, arith}
use Rattle.std.specs.List.{slice_get, slice_set}
use Rattle.std.specs.declared.alloc.AllocError.{AllocError}
use Rattle.apex_explore.specs.Desks.{IsDesk, IsReady}
use Rattle.apex_explore.specs.declared.desks.Desk.{Desk}
use Rattle.apex_jobs.specs.Rounds.{start_at, AreLaidOut, IsLaid, LaysOut}
use Rattle.apex_states.specs.Batches.{IsCopied}
use Rattle.apex_states.specs.Lists.{AllAre}
use Rattle.apex_states.specs.States.{Reached}
use Rattle.apex_states.proofs.Fronts.{set_back}
use Rattle.apex_states.proofs.Probing.{last_or_before}

pub all_set : {X : Type 0} (P : X → Type 0) (xs : List X) (place : ℕ) (y : X) → AllAre P xs → P y → AllAre P (slice_set xs place y)
all_set P xs place y all holds at x is =
    elim (set_back xs place y at x is) [
      | inl here ↦ subst P here.1 holds
      | inr other ↦ all at x other.1
    ]

pub all_push : {X : Type 0} (P : X → Type 0) (xs : List X) (y : X) → AllAre P xs → P y → AllAre P (xs ++ y ∷ [])
all_push P xs y all holds place x is =
    elim (last_or_before xs y place x is) [
      | inl before ↦ all place x before
      | inr last ↦ subst P last.1 holds
    ]

-- copies of states of a system are ready
pub copies_ready : {W : Type 0} (is_state : List ℕ → Type 0) (reached : Reached) (from limit : ℕ) (desk : Desk W) → AllAre is_state reached.states → limit ≤ 2 ^ 32 → IsCopied reached from limit desk.batch → IsReady is_state desk
copies_ready is_state reached from limit desk all few copied = record {
  states = λ at k is. all (from + at) k (copied.same at k is);
  fits = omega (arith, copied.first, copied.whole, few);
}

-- What is laid out on desks.
module _ {W : Type 0} (is_state : List ℕ → Type 0) (reached : Reached) (from limit size : ℕ) (old new : List (Desk W))
    (laid : (place : ℕ) (desk : Desk W) → slice_get new place ≡ Some desk → (was : Desk W) × (slice_get old place ≡ Some was) × LaysOut reached (start_at from limit size place) (start_at from limit size (place + 1)) was desk)
    (all : AllAre IsLaid new) where
  copied : (place : ℕ) (desk : Desk W) → slice_get new place ≡ Some desk → IsCopied reached (start_at from limit size place) (start_at from limit size (place + 1)) desk.batch
  copied place desk is =
      let (was, there, lays) = laid place desk is in
      let Copied : Result Unit AllocError → Type 0 = λ r. IfOk r (λ _. IsCopied reached (start_at from limit size place) (start_at from limit size (place + 1)) desk.batch) in
      subst Copied (all place desk is) lays.copied

  pub AreLaidOut-from : from ≤ limit → limit ≤ from + size * length new → limit ≤ 2 ^ 32 → AllAre is_state reached.states → AreLaidOut is_state reached from limit new
  AreLaidOut-from in_order whole few states = record {
    start = start_at from limit size;
    starts = record { first = omega (arith, in_order); last = omega (arith, whole); within = λ part. omega arith };
    copied = copied;
    ready = λ place desk is. copies_ready is_state reached (start_at from limit size place) (start_at from limit size (place + 1)) desk states (omega (arith, few)) (copied place desk is);
  }

  pub desks_laid : (word_count : ℕ) (is_workspace : W → Type 0) → reached.width ≡ word_count → AllAre (IsDesk word_count is_workspace) old → AllAre (IsDesk word_count is_workspace) new
  desks_laid word_count is_workspace width desks place desk is =
      let (was, there, lays) = laid place desk is in
      let same = desks place was there in
      let wide : desk.batch.width ≡ word_count = (copied place desk is).width ∙ width in
      rw lays.same (record { workspace = same.workspace; next = same.next; width = wide })
