-- The laws of canonical forms and their words. Each holds of every lawful table.
use Rattle.std.specs.Prelude.{◌≡◌, true}
use Rattle.apex_choices.specs.Counts.{IsSamePaced}
use Rattle.apex_forms.specs.Forms.{canonical_paced}
use Rattle.apex_machine.specs.table.Table.{Table}
use Rattle.apex_pace.specs.Pace.{Paced, is_allowed, paced_opening, paced_step}
use Rattle.apex_recall.specs.Formed.{form_words}
use Rattle.apex_recall.specs.Reached.{IsReached}
use Rattle.apex_recall.specs.Restored.{paced_from}
use Rattle.apex_recall.specs.Terms.{Event, Pace}

-- the situation before any event is such a one, and so is what comes of an event that is allowed in a
-- canonical form
pub record FormsReach (table : Table) : Type 0 where
  pub opens : IsReached table (paced_opening table)
  pub steps : (pace : Pace) (s : Paced) → IsReached table s → (event : Event)
      → is_allowed pace table (canonical_paced pace s) event ≡ true
      → IsReached table (paced_step table (canonical_paced pace s) event)

-- the words of the canonical form hold all of it: so two canonical forms with the same words are the
-- same
abbrev pub WordsAreExact : Table → Type 0
WordsAreExact table = (pace : Pace) (s : Paced) → IsReached table s
    → IsSamePaced (paced_from table (form_words pace table s)) (canonical_paced pace s)

-- the same words, so the same form, whenever the forms are the same
abbrev pub FormsHaveWords : Table → Type 0
FormsHaveWords table = (pace : Pace) (one other : Paced)
    → IsSamePaced (canonical_paced pace one) (canonical_paced pace other)
    → form_words pace table one ≡ form_words pace table other
