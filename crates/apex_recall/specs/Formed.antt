-- The canonical forms that a search keeps, and what can be done with them.
use Rattle.std.specs.Prelude.{◌≡◌, ℕ, ◌^◌, ◌<◌, List}
use Rattle.apex_choices.specs.Choices.{AreWordsAfter}
use Rattle.apex_choices.specs.Counts.{IsSamePaced}
use Rattle.apex_forms.specs.Forms.{canonical_paced}
use Rattle.apex_forms.specs.Stored.{FitsWords, words_of}
use Rattle.apex_laws.specs.GoesOn.{CanGoOn}
use Rattle.apex_machine.specs.Events.{IsWithin}
use Rattle.apex_machine.specs.table.Table.{Table}
use Rattle.apex_pace.specs.Laws.{IsPace}
use Rattle.apex_pace.specs.Pace.{Paced}
use Rattle.apex_recall.specs.Reached.{IsReached}
use Rattle.apex_recall.specs.Restored.{IsOfTable, IsStored}
use Rattle.apex_recall.specs.Terms.{Event, Pace}

-- the words of the canonical form of a paced situation
abbrev pub form_words : Pace → Table → Paced → List ℕ
form_words pace table s = words_of table (canonical_paced pace s)

-- the words are those of the canonical form of a situation whose form a search may keep
pub record IsForm (pace : Pace) (table : Table) (words : List ℕ) : Type 0 where
  pub paced : Paced
  pub form : words ≡ form_words pace table paced
  pub reached : IsReached table paced

-- the situation is in the canonical form of one to which a schedule comes
pub record IsFormed (pace : Pace) (table : Table) (here : Paced) : Type 0 where
  pub paced : Paced
  pub reached : IsReached table paced
  pub same : IsSamePaced here (canonical_paced pace paced)

-- the canonical form of such a situation fits in its words, which are those of a situation of the
-- table; it has time and stamps for an event, and counts that still fit in words after it
pub record FormIsReady (pace : Pace) (table : Table) (s : Paced) : Type 0 where
  pub fits : FitsWords table (canonical_paced pace s)
  pub stored : IsStored table (form_words pace table s)
  pub can : CanGoOn table 1 (canonical_paced pace s).situation
  pub counts : (event : Event) → IsWithin table.cores event
      → AreWordsAfter event (canonical_paced pace s)

-- so it is at each pace whose turns fit in 32 bits
abbrev pub FormsAreReady : Table → Type 0
FormsAreReady table = (pace : Pace) → IsPace pace → pace.turns < 2 ^ 32
    → (s : Paced) → IsReached table s → FormIsReady pace table s

-- the words of the canonical form are those of a situation of the table, in which it fits
pub record FormFits (pace : Pace) (table : Table) (s : Paced) : Type 0 where
  pub fits : FitsWords table (canonical_paced pace s)
  pub stored : IsStored table (form_words pace table s)

abbrev pub FormsFit : Table → Type 0
FormsFit table = (pace : Pace) → IsPace pace → pace.turns < 2 ^ 32
    → (s : Paced) → IsReached table s → FormFits pace table s

-- such a situation has the fixed parts that the table gives
abbrev pub PartsAreKept : Table → Type 0
PartsAreKept table = (s : Paced) → IsReached table s → IsOfTable table s.situation
