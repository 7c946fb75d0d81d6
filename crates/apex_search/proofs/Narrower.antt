-- A search for one question and a search for a narrower one.
use Rattle.std.proofs.Common.{◌≡◌, ℕ, ◌⊎◌, Bool, true, false, List, nat_lt, Option, None, Some, if◌then◌else◌, inl, inr, refl, sym, ◌∙◌}
use Rattle.std.proofs.lemmas.Bool.{cases_Bool}
use Rattle.apex_explore.specs.Searches.{Weakens}
use Rattle.apex_explore.specs.Systems.{Step, refuses, hits}
use Rattle.apex_explore.specs.declared.searches.Search.{Search}
use Rattle.apex_explore.proofs.Weaker.{IsSearched-weaker, Leads-weaker}
use Rattle.apex_machine.specs.Deeds.{Deed}
use Rattle.apex_machine.specs.Situations.{deed}
use Rattle.apex_pace.specs.Pace.{Paced, paced_opening, paced_run}
use Rattle.apex_search.specs.Answers.{IsRoomUsedUp, LeadsToFact}
use Rattle.apex_search.specs.Census.{IsSearchOf}
use Rattle.apex_search.specs.Facts.{has_fact}
use Rattle.apex_recall.specs.Restored.{paced_from}
use Rattle.apex_search.specs.Steps.{Searched, choices_of, makes, search_start, search_step, step_by}
use Rattle.apex_choices.specs.Choices.{event_of}
use Rattle.apex_search.specs.Terms.{Event, Question}
use Rattle.apex_search.specs.declared.systems.Workplace.{Workplace}

-- the same system with this question
abbrev pub with_question : Searched → Question → Searched
with_question system asked = record system { question = asked }

-- what has a fact of the second question has one of the first
abbrev pub IsNarrower : Question → Question → Type 0
IsNarrower question asked = (d : Deed) → has_fact asked d ≡ true → has_fact question d ≡ true

module _ (system : Searched) (asked : Question) (narrower : IsNarrower system.question asked) where
  not_asked : (d : Deed) → has_fact system.question d ≡ false → has_fact asked d ≡ false
  not_asked d fails = elim (cases_Bool (has_fact asked d)) [
    | inl holds ↦ let both : true ≡ false = sym (narrower d holds) ∙ fails in cc
    | inr none ↦ none
  ]

  weaker_by : (s : Paced) (found : Option Event)
      → (step_by (with_question system asked) s found ≡ step_by system s found) ⊎ (step_by system s found ≡ hits)
  weaker_by s None = inl refl
  weaker_by s (Some event) = elim (cases_Bool (has_fact system.question (deed system.table s.situation event))) [
    | inl holds ↦ inr (rw holds refl)
    | inr fails ↦ inl (rw (fails, not_asked (deed system.table s.situation event) fails) refl)
  ]

  within_own : (own : Bool) (new old : Step (List ℕ)) → (new ≡ old) ⊎ (old ≡ hits)
      → ((if own then new else refuses) ≡ (if own then old else refuses)) ⊎ ((if own then old else refuses) ≡ hits)
  within_own true new old same = same
  within_own false new old same = inl refl

  -- its search has a weaker step
  pub narrower_weakens : Weakens (makes system) (makes (with_question system asked))
  narrower_weakens words choice =
      let s = paced_from system.table words in
      within_own (nat_lt choice (choices_of system)) (search_step (with_question system asked) words choice) (search_step system words choice)
      (weaker_by s (event_of system.pace system.table s choice))

  -- what leads to one of its facts leads to one of the other's
  pub wider : (events : List Event) → LeadsToFact (with_question system asked) events → LeadsToFact system events
  wider events leads = record {
    earlier = leads.earlier;
    last = leads.last;
    is = leads.is;
    keeps = leads.keeps;
    has = narrower (deed system.table (paced_run system.table (paced_opening system.table) leads.earlier).situation leads.last) leads.has;
  }

  -- the states that the one reaches the other reaches, too
  pub used_up_too : (room depth : ℕ) → IsRoomUsedUp system room depth → IsRoomUsedUp (with_question system asked) room depth
  used_up_too room depth (states, many, distinct, within) = (
    states,
    many,
    distinct,
    λ n one.
        let was = within n one in
        (was.0, was.1, Leads-weaker (makes system) (makes (with_question system asked)) narrower_weakens (search_start system) was.0 n was.2),
  )

  -- a search for the one is a search for the other
  pub search_narrower : (search : Search Workplace) → IsSearchOf system search → IsSearchOf (with_question system asked) search
  search_narrower search of = record {
    over = of.over;
    searched = IsSearched-weaker (makes (with_question system asked)) (search_start system) search (makes system, narrower_weakens, of.searched);
  }
