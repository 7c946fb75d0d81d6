-- Forms that are the same have the same words.
use Rattle.std.proofs.Common.{◌≡◌, ℕ, zero, suc, List, [], ◌∷◌, ◌++◌, Option, refl, ◌∙◌, ap}
use Rattle.apex_machine.specs.Deeds.{Objects}
use Rattle.apex_machine.specs.processes.Roster.{Roster}
use Rattle.apex_machine.specs.table.Table.{Table}
use Rattle.apex_pace.specs.Pace.{Paced}
use Rattle.apex_forms.specs.Codes.{mode_word}
use Rattle.apex_choices.specs.Counts.{IsSamePaced}
use Rattle.apex_recall.specs.Laws.{FormsHaveWords}
use Rattle.apex_forms.specs.Stored.{core_words, cores_words, counted_words, locks_words, records_words, words_of}
use Rattle.apex_recall.specs.Terms.{OpenWork}

-- the words of the cores and of what comes behind them
abbrev words_by : ℕ → List ℕ → Roster → Objects → List ℕ
words_by made cores roster objects =
    (mode_word roster.mode ∷ roster.now ∷ made ∷ []) ++ cores ++ records_words objects.processes roster.records
    ++ counted_words objects ++ locks_words objects

module _ {one other : Paced} (same : IsSamePaced one other) where
  same_cores : (n : ℕ) → cores_words n one ≡ cores_words n other
  same_cores zero = refl
  same_cores (suc n) =
      ap (λ (words : List ℕ). words ++ core_words (one.situation.works n) (one.turns n) (one.worked n)) (same_cores n)
      ∙ ap (λ (begun : Option OpenWork). cores_words n other ++ core_words begun (one.turns n) (one.worked n)) (same.situation.works n)
      ∙ ap (λ (turns : ℕ). cores_words n other ++ core_words (other.situation.works n) turns (one.worked n)) (same.turns n)
      ∙ ap (λ (worked : ℕ). cores_words n other ++ core_words (other.situation.works n) (other.turns n) worked) (same.worked n)

  pub same_words : (table : Table) → words_of table one ≡ words_of table other
  same_words table =
      ap (λ (made : ℕ). words_by made (cores_words table.cores one) one.situation.roster one.situation.objects) same.situation.made
      ∙ ap (λ (cores : List ℕ). words_by other.situation.made cores one.situation.roster one.situation.objects) (same_cores table.cores)
      ∙ ap (λ (roster : Roster). words_by other.situation.made (cores_words table.cores other) roster one.situation.objects) same.situation.roster
      ∙ ap (words_by other.situation.made (cores_words table.cores other) other.situation.roster) same.situation.objects

pub forms_have_words : (table : Table) → FormsHaveWords table
forms_have_words table pace one other same = same_words same table
