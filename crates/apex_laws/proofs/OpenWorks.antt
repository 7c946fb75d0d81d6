-- The work that is open on a core after one entry more: the work that the entry began, or the work
-- that was open before, after one state more.
use Rattle.std.proofs.Common.{◌≡◌, ℕ, Bool, true, false, ◌&&◌, List, [], ◌∷◌, ◌++◌, length, Option, None, Some, option_map, option_and_then, if◌then◌else◌, refl, ◌∙◌, ap, arith}
use Rattle.std.specs.Option.{option_or}
use Rattle.std.proofs.lemmas.List.Folds.{list_all-append}
use Rattle.apex_laws.specs.Terms.{Entry, OpenWork, Who, Work}
use Rattle.apex_machine.specs.Deeds.{Deed}
use Rattle.apex_machine.specs.Machine.{Machine, after_deed, open_work}
use Rattle.apex_machine.specs.processes.Roster.{Roster}
use Rattle.apex_machine.specs.processes.Running.{chosen, is_process}
use Rattle.apex_machine.specs.Works.{Since, fresh, is_turn_of, is_unbroken, last_turn, open_in, open_since, open_work_of, own_turn, watched, work_begun}
use Rattle.apex_laws.proofs.Truths.{and_true}

-- one state more since the entry
abbrev extended : Roster → Since → Since
extended roster since = record { entry = since.entry; states = since.states ++ roster ∷ [] }

module _ (core : ℕ) (e : Entry) (roster : Roster) where
  abbrev own : Option Since
  own = Some (record { entry = e; states = roster ∷ [] })

  -- of two entries the later one counts
  later_counts : (mine his : Bool) (x : Entry) (states : List Roster) (found : Option Since)
      → option_or (if mine then own else option_map (extended roster) found)
      (if his then Some (record { entry = x; states = states ++ roster ∷ [] }) else None)
      ≡ (if mine then own else option_map (extended roster) (option_or found (if his then Some (record { entry = x; states = states }) else None)))
  later_counts true his x states found = refl
  later_counts false his x states (Some since) = refl
  later_counts false true x states None = refl
  later_counts false false x states None = refl

  last_turn-push : (history : List Entry) (past : List Roster) → length past ≡ length history
      → last_turn core (history ++ e ∷ []) (past ++ roster ∷ [])
      ≡ (if is_turn_of core e.who then own else option_map (extended roster) (last_turn core history past))
  last_turn-push [] [] same = refl
  last_turn-push [] (r ∷ rs) same = absurd (omega (arith, same))
  last_turn-push (x ∷ later) [] same = absurd (omega (arith, same))
  last_turn-push (x ∷ later) (r ∷ rs) same =
      ap (λ found. option_or found (own_turn core x (r ∷ rs ++ roster ∷ []))) (last_turn-push later rs (omega (arith, same)))
      ∙ later_counts (is_turn_of core e.who) (is_turn_of core x.who) x (r ∷ rs) (last_turn core later rs)

  -- work that has just begun
  open_fresh : (begun : Option Work) → option_map (open_in core (roster ∷ [])) begun ≡ option_map (watched roster core) (option_map fresh begun)
  open_fresh None = refl
  open_fresh (Some work) =
      ap (λ (b : Bool). Some (record { work = work; unbroken = b })) (and_true (is_process work.process (chosen roster core)))

  -- work that began before
  open_still : (states : List Roster) (begun : Option Work)
      → option_map (open_in core (states ++ roster ∷ [])) begun ≡ option_map (watched roster core) (option_map (open_in core states) begun)
  open_still states None = refl
  open_still states (Some work) =
      let kept = λ (r : Roster). is_process work.process (chosen r core) in
      ap (λ (b : Bool). Some (record { work = work; unbroken = b }))
      (list_all-append kept states (roster ∷ [])
      ∙ ap (λ (b : Bool). is_unbroken core work.process states && b) (and_true (is_process work.process (chosen roster core))))

  open_found : (found : Option Since)
      → option_and_then (open_since core) (option_map (extended roster) found)
      ≡ option_map (watched roster core) (option_and_then (open_since core) found)
  open_found None = refl
  open_found (Some since) =
      open_still since.states (work_begun since.entry.process since.entry.call since.entry.reply)

  open_by : (mine : Bool) (found : Option Since)
      → option_and_then (open_since core) (if mine then own else option_map (extended roster) found)
      ≡ option_map (watched roster core)
      (if mine then option_map fresh (work_begun e.process e.call e.reply) else option_and_then (open_since core) found)
  open_by true found = open_fresh (work_begun e.process e.call e.reply)
  open_by false found = open_found found

  open_push : (history : List Entry) (past : List Roster) → length past ≡ length history
      → open_work_of core (history ++ e ∷ []) (past ++ roster ∷ [])
      ≡ option_map (watched roster core)
      (if is_turn_of core e.who then option_map fresh (work_begun e.process e.call e.reply) else open_work_of core history past)
  open_push history past same =
      ap (option_and_then (open_since core)) (last_turn-push history past same)
      ∙ open_by (is_turn_of core e.who) (last_turn core history past)

-- the work that is open after a deed
abbrev pub open_by_deed : Machine → Who → Deed → ℕ → Option OpenWork
open_by_deed machine who deed core =
    if is_turn_of core who then option_map fresh (work_begun deed.caller deed.call deed.outcome.reply) else open_work machine core

pub open_after : (machine : Machine) (who : Who) (deed : Deed) → length machine.past ≡ length machine.history → (core : ℕ)
    → open_work (after_deed machine who deed) core ≡ option_map (watched deed.outcome.roster core) (open_by_deed machine who deed core)
open_after machine who deed same core = open_push core _ deed.outcome.roster machine.history machine.past same
