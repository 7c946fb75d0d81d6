-- Work is done exactly if its process kept the core, and lost exactly if it did not.
use Rattle.std.proofs.Common.{◌≡◌, ℕ, ◌+◌, ◌-◌, ◌<◌, ◌≤◌, Bool, true, false, List, [], ◌∷◌, ◌++◌, length, Option, None, Some, option_and_then, All, get_or, drop, take, refl, sym, ◌∙◌, ap, subst, arith}
use Rattle.std.proofs.lemmas.Bool.{both_ways, eq-eqb, eqb-true}
use Rattle.std.proofs.lemmas.List.{get_or-drop, length-drop}
use Rattle.std.proofs.lemmas.List.Elements.{All-head, All-tail}
use Rattle.std.proofs.lemmas.List.Sums.{AllPass-from_list_all, list_all-from_AllPass}
use Rattle.std.specs.Option.{option_or}
use Rattle.apex_laws.specs.Terms.{Entry, Work}
use Rattle.apex_types.specs.declared.entries.Reply.TheVariants.{Done, Lost}
use Rattle.apex_machine.specs.Deeds.{Objects, ended}
use Rattle.apex_machine.specs.Machine.{Machine, deed_of, events_of, objects_after, open_work, opening, run}
use Rattle.apex_machine.specs.processes.Roster.{Roster}
use Rattle.apex_machine.specs.processes.Running.{chosen, is_process}
use Rattle.apex_machine.specs.table.Table.{Table, IsLawful}
use Rattle.apex_machine.specs.Works.{is_turn_of, is_unbroken, last_turn, open_since, own_turn}
use Rattle.apex_laws.specs.Unbroken.{EndsAsItWasKept, HasBegun, KeptTheCore, WorkEndsAsItWasKept}
use Rattle.apex_laws.proofs.Pasts.{PastIsTheRuns, past_is_the_runs}
use Rattle.apex_laws.proofs.Sound.{sound_run}

module _ (core : ℕ) where
  abbrev IsElsewhere : Entry → Type 0
  IsElsewhere e = is_turn_of core e.who ≡ false

  -- no turn of the core among entries of others
  none_of_others : (later : List Entry) (states : List Roster) → All IsElsewhere later → last_turn core later states ≡ None
  none_of_others [] states all = refl
  none_of_others (e ∷ later) [] all = refl
  none_of_others (e ∷ later) (r ∷ rs) all =
      rw (none_of_others later rs (All-tail IsElsewhere e later all), All-head IsElsewhere e later all) refl

  -- the last entry of the core, with the states from it on
  last_is : (earlier : List Entry) (e : Entry) (later : List Entry) (past : List Roster)
      → length past ≡ length (earlier ++ e ∷ later) → is_turn_of core e.who ≡ true → All IsElsewhere later
      → last_turn core (earlier ++ e ∷ later) past ≡ Some (record { entry = e; states = drop (length earlier) past })
  last_is [] e later [] same own all = absurd (omega (arith, same))
  last_is [] e later (r ∷ rs) same own all = rw (none_of_others later rs all, own) refl
  last_is (x ∷ earlier) e later [] same own all = absurd (omega (arith, same))
  last_is (x ∷ earlier) e later (r ∷ rs) same own all =
      ap (λ found. option_or found (own_turn core x (r ∷ rs))) (last_is earlier e later rs (omega (arith, same)) own all)

  is_chosen : (p : ℕ) (found : Option ℕ) → is_process p found ≡ true → found ≡ Some p
  is_chosen p None h = absurd (both_ways false refl h)
  is_chosen p (Some q) h = ap (λ (k : ℕ). Some k) (sym (eqb-true p q h))

  chosen_is : (p : ℕ) (found : Option ℕ) → found ≡ Some p → is_process p found ≡ true
  chosen_is p found h = rw h (eq-eqb p p refl)

module _ (table : Table) (machine : Machine) (past : PastIsTheRuns table machine) (same : length machine.past ≡ length machine.history)
    (core : ℕ) (work : Work) (begun : HasBegun machine.history core work) where
  abbrev p : ℕ
  p = work.process

  abbrev first : ℕ
  first = length begun.earlier

  abbrev states : List Roster
  states = drop first machine.past

  abbrev keeps : Roster → Bool
  keeps roster = is_process p (chosen roster core)

  abbrev unbroken : Bool
  unbroken = is_unbroken core p states

  -- the work that is open on the core
  stands_open : open_work machine core ≡ Some (record { work = work; unbroken = unbroken })
  stands_open =
      let fits : length machine.past ≡ length (begun.earlier ++ begun.entry ∷ begun.later) = same ∙ ap length begun.parts in
      let last = last_is core begun.earlier begun.entry begun.later machine.past fits begun.own begun.last in
      ap (λ history. option_and_then (open_since core) (last_turn core history machine.past)) begun.parts
      ∙ ap (option_and_then (open_since core)) last
      ∙ rw begun.begun refl

  -- the state after k entries
  state_is : (k : ℕ) (d : Roster) → first < k → k ≤ length machine.history
      → get_or states (k - 1 - first) d ≡ (run table (opening table) (take k (events_of machine.history))).roster
  state_is k d above within =
      get_or-drop first machine.past (k - 1 - first) d
      ∙ ap (λ (i : ℕ). get_or machine.past i d) (omega (arith, above))
      ∙ past (k - 1) d (omega (arith, above, within, same))
      ∙ ap (λ (n : ℕ). (run table (opening table) (take n (events_of machine.history))).roster) (omega (arith, above))

  kept : unbroken ≡ true → KeptTheCore table machine core first p
  kept all k above within =
      let d : Roster = machine.roster in
      let many = length-drop first machine.past in
      let here = AllPass-from_list_all keeps states all (k - 1 - first) d (omega (arith, many, same, above, within)) in
      is_chosen core p _ (subst (λ (roster : Roster). keeps roster ≡ true) (state_is k d above within) here)

  kept_all : KeptTheCore table machine core first p → unbroken ≡ true
  kept_all all =
      list_all-from_AllPass keeps states (λ i d within.
      let many = length-drop first machine.past in
      let above : first < first + i + 1 = omega arith in
      let inside : first + i + 1 ≤ length machine.history = omega (arith, many, same, within) in
      let is = state_is (first + i + 1) d above inside in
      let place : first + i + 1 - 1 - first ≡ i = omega arith in
      subst (λ (roster : Roster). keeps roster ≡ true) (sym is ∙ ap (λ (j : ℕ). get_or states j d) place)
      (chosen_is core p _ (all (first + i + 1) above inside)))

  abbrev objects : Objects
  objects = objects_after table machine.history

  reply_is : (deed_of table machine core).outcome.reply ≡ (ended table machine.roster objects p unbroken).reply
  reply_is = rw stands_open refl

  -- the reply, by whether the process kept the core
  ends_by : (b : Bool) → (b ≡ true → KeptTheCore table machine core first p) → (KeptTheCore table machine core first p → b ≡ true)
      → (deed_of table machine core).outcome.reply ≡ (ended table machine.roster objects p b).reply
      → EndsAsItWasKept table machine core work begun
  ends_by true was is reply = record {
    done = (λ _. was refl, λ _. reply);
    lost = (λ e. absurd (other (sym e ∙ reply)), λ broken. absurd (broken (was refl)));
  } where
    other : Lost ≡ Done → ⊥
    other e = cc
  ends_by false was is reply = record {
    done = (λ e. absurd (other (sym e ∙ reply)), λ keeps_it. absurd (both_ways false refl (is keeps_it)));
    lost = (λ _ keeps_it. both_ways false refl (is keeps_it), λ _. reply);
  } where
    other : Done ≡ Lost → ⊥
    other e = cc

  pub ends : EndsAsItWasKept table machine core work begun
  ends = ends_by unbroken kept kept_all reply_is

pub ends_as_it_was_kept : (table : Table) → IsLawful table → WorkEndsAsItWasKept table
ends_as_it_was_kept table lawful events core work begun =
    ends table (run table (opening table) events) (past_is_the_runs table lawful events) (sound_run table lawful events).past core work begun
