-- The situation that is restored of the words of a state.
use Rattle.std.proofs.Common.{◌≡◌, ◌<◌, ◌^◌, ◌∙◌, ℕ, List, None, Some, Option, ap, subst, sym}
use Rattle.apex_explore.specs.Systems.{step_of}
use Rattle.apex_explore.specs.declared.systems.Taken.TheVariants.{Refused}
use Rattle.std.specs.Prelude.{IfSome}
use Rattle.apex_laws.specs.Laws.{OfEachTable}
use Rattle.apex_machine.specs.table.Table.{IsLawful, Table}
use Rattle.apex_pace.specs.Laws.{IsPace}
use Rattle.apex_pace.specs.Pace.{Paced}
use Rattle.apex_choices.specs.Counts.{IsSamePaced, StoredPaced, paced_in}
use Rattle.apex_forms.specs.Forms.{canonical_paced}
use Rattle.apex_recall.specs.Laws.{WordsAreExact}
use Rattle.apex_recall.specs.Restored.{IsOfTable, IsStored, paced_from}
use Rattle.apex_recall.specs.Formed.{FormsAreReady, IsForm, IsFormed}
use Rattle.apex_choices.specs.Choices.{IsChosen, event_of}
use Rattle.apex_search.specs.Steps.{IsCopied, IsIn, IsWorkplace, Searched, search_step, step_by}
use Rattle.apex_machine.specs.Events.{IsWithin}
use Rattle.apex_search.specs.Terms.{Event, Pace}
use Rattle.apex_search.specs.declared.systems.Workplace.{Workplace}
use Rattle.apex_choices.proofs.Same.{paced_then}
use Rattle.apex_choices.proofs.Same.{paced_is}

module _ (pace : Pace) (is_pace : IsPace pace) (few : pace.turns < 2 ^ 32) (table : Table) (lawful : IsLawful table) (words : List ℕ)
    (state : IsForm pace table words) where
  pub words_stored : OfEachTable FormsAreReady → IsStored table words
  words_stored ready =
      subst (IsStored table) (sym state.form) (ready table lawful pace is_pace few state.paced state.reached).stored

  pub here_formed : OfEachTable WordsAreExact → (here : Paced) → IsSamePaced here (paced_from table words) → IsFormed pace table here
  here_formed exact here same = record {
    paced = state.paced;
    reached = state.reached;
    same = paced_then same (subst (λ (ws : List ℕ). IsSamePaced (paced_from table ws) (canonical_paced pace state.paced)) (sym state.form)
        (exact table lawful pace state.paced state.reached));
  }

-- what is said of the situation, if there is one
pub of_here : (o : Option StoredPaced) (here : StoredPaced) (Is : StoredPaced → Type 0) → o ≡ Some here → IfSome o Is → Is here
of_here o here Is is some = subst (λ (x : Option StoredPaced). IfSome x Is) is some

-- what was copied is the situation of these words
pub same_made : (table : Table) (words : List ℕ) (workplace : Workplace) (paced : StoredPaced) → IsCopied table workplace words
    → workplace.made ≡ Some paced → IsSamePaced (paced_in paced) (paced_from table words)
same_made table words workplace paced copied is =
    of_here workplace.made paced (λ (p : StoredPaced). IsSamePaced (paced_in p) (paced_from table words)) is
    (subst (λ (x : Option StoredPaced). IfSome x (λ (p : StoredPaced). IsSamePaced (paced_in p) (paced_from table words)))
    (sym copied.is_made) copied.same)

-- the event of a choice in one situation of these words is chosen in another
pub copied_chosen : (pace : Pace) (table : Table) (words : List ℕ) (here copied : Paced) (choice : ℕ) (event : Event)
    → IsSamePaced here (paced_from table words) → IsSamePaced copied (paced_from table words)
    → Some event ≡ event_of pace table here choice → IsWithin table.cores event → IsChosen pace table copied event
copied_chosen pace table words here copied choice event same copy found within = record {
  choice = choice;
  found = ap (λ (p : Paced). event_of pace table p choice) (paced_is copy ∙ sym (paced_is same)) ∙ sym found;
  within = within;
}

-- a choice that is not possible in the situation is refused in the words
pub step_refused : (system : Searched) (here : Paced) (words next : List ℕ) (choice : ℕ) → IsSamePaced here (paced_from system.table words)
    → None ≡ event_of system.pace system.table here choice → step_of Refused next ≡ search_step system words choice
step_refused system here words next choice same none =
    ap (step_by system here) none
    ∙ ap (λ (p : Paced). step_by system p (event_of system.pace system.table p choice)) (paced_is same)

-- the event of a choice in a situation of the words is the choice in the words
pub step_from : (system : Searched) (here copied : Paced) (words : List ℕ) (choice : ℕ) (event : Event)
    → IsSamePaced here (paced_from system.table words) → IsSamePaced copied (paced_from system.table words)
    → Some event ≡ event_of system.pace system.table here choice
    → step_by system copied (Some event) ≡ search_step system words choice
step_from system here copied words choice event same copy found =
    ap (step_by system copied) found
    ∙ ap (λ (p : Paced). step_by system copied (event_of system.pace system.table p choice)) (paced_is same)
    ∙ ap (λ (p : Paced). step_by system p (event_of system.pace system.table (paced_from system.table words) choice)) (paced_is copy)

-- the workplace, once a state is entered
pub entered : (table : Table) (before after : Workplace) (words : List ℕ) → IsWorkplace table before → IsIn table after words
    → after.made ≡ before.made
    → ((here : Paced) → IsSamePaced here (paced_from table words) → IsOfTable table here.situation) → IsWorkplace table after
entered table before after words was inside made of = record {
  here = inside.here;
  made = was.made;
  is_here = inside.is_here;
  is_made = made ∙ was.is_made;
  here_of = of (paced_in inside.here) inside.same;
  made_of = was.made_of;
}
