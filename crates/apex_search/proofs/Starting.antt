-- The first state of a search.
use Rattle.std.proofs.Common.{◌≡◌, ◌<◌, ◌^◌, sym, ap, subst}
use Rattle.apex_alike.specs.Canonical.{IsFit}
use Rattle.apex_laws.specs.Laws.{OfEachTable}
use Rattle.apex_machine.specs.table.Table.{IsLawful, Table}
use Rattle.apex_pace.specs.Laws.{IsPace}
use Rattle.apex_pace.specs.Pace.{Paced, paced_opening}
use Rattle.apex_choices.specs.Counts.{IsSamePaced}
use Rattle.apex_forms.specs.Forms.{canonical_paced}
use Rattle.apex_recall.specs.Laws.{FormsReach}
use Rattle.apex_recall.specs.Restored.{IsOfTable}
use Rattle.apex_recall.specs.Formed.{FormIsReady, FormsAreReady, PartsAreKept, form_words}
use Rattle.apex_forms.specs.Stored.{FitsWords}
use Rattle.apex_search.specs.Terms.{Pace}
use Rattle.apex_choices.proofs.Same.{paced_is}

pub opened_parts : (table : Table) → IsLawful table → FormsReach table → OfEachTable PartsAreKept → (opened : Paced) → IsSamePaced opened (paced_opening table)
    → IsOfTable table opened.situation
opened_parts table lawful bounds kept opened same =
    subst (λ (p : Paced). IsOfTable table p.situation) (sym (paced_is same)) (kept table lawful (paced_opening table) bounds.opens)

module _ (pace : Pace) (is_pace : IsPace pace) (few : pace.turns < 2 ^ 32) (table : Table) (lawful : IsLawful table)
    (bounds : FormsReach table) (ready : OfEachTable FormsAreReady) where
  pub start_ready : FormIsReady pace table (paced_opening table)
  start_ready = ready table lawful pace is_pace few (paced_opening table) bounds.opens

  module _ (opened : Paced) (same : IsSamePaced opened (paced_opening table)) where
    pub start_fit : IsFit opened.situation.roster
    start_fit = subst (λ (p : Paced). IsFit p.situation.roster) (sym (paced_is same)) bounds.opens.fit

    pub start_fits : FitsWords table (canonical_paced pace opened)
    start_fits = subst (λ (p : Paced). FitsWords table (canonical_paced pace p)) (sym (paced_is same)) start_ready.fits

    pub start_words_are : form_words pace table opened ≡ form_words pace table (paced_opening table)
    start_words_are = ap (form_words pace table) (paced_is same)
