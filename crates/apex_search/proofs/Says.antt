-- An answer about the words of a search says as much of the schedules.
use Rattle.std.proofs.Common.{ℕ, refl}
use Rattle.apex_explore.specs.Answers.{Says}
use Rattle.apex_explore.specs.Systems.{step_within}
use Rattle.apex_explore.specs.declared.answers.Answer.{Answer}
use Rattle.apex_machine.specs.table.Table.{IsLawful, Table}
use Rattle.apex_pace.specs.Laws.{IsPace}
use Rattle.apex_pace.specs.Pace.{paced_opening}
use Rattle.apex_alike.proofs.Canonical.{canonical_situation}
use Rattle.apex_search.specs.Answers.{SaysOfSchedules}
use Rattle.apex_recall.specs.Reached.{IsReached}
use Rattle.apex_search.specs.Steps.{Searched, choices_of, search_start, search_step}
use Rattle.apex_search.specs.Terms.{Pace}
use Rattle.apex_recall.proofs.Exact.{words_exact}
use Rattle.apex_search.proofs.FormSteps.{forms_stand}
use Rattle.apex_recall.proofs.FormWords.{forms_have_words}
use Rattle.apex_recall.proofs.ReachedNext.{forms_reach}
use Rattle.apex_search.proofs.Schedules.{Stand, says_of_schedules}
use Rattle.apex_search.proofs.Shifted.{form_event}

stand : (pace : Pace) → IsPace pace → (table : Table) → IsLawful table → Stand pace table (IsReached table)
stand pace is_pace table lawful =
    let reach = forms_reach table lawful in
    let start = paced_opening table in
    record {
      opens = reach.opens;
      later = _;
      opening = record { alike = canonical_situation start.situation reach.opens.fit; turns = λ core. refl; worked = λ core. refl };
      next = reach.steps pace;
      exact = words_exact table lawful pace;
      event = λ t d s stands choice. form_event pace is_pace table stands choice;
      steps = forms_stand table lawful pace is_pace;
      words = forms_have_words table;
    }

pub says : (system : Searched) → IsPace system.pace → IsLawful system.table
    → (room : ℕ) (answer : Answer) → Says (step_within (choices_of system) (search_step system)) (search_start system) room answer
    → SaysOfSchedules system room answer
says system is_pace lawful =
    says_of_schedules system (IsReached system.table) (stand system.pace is_pace system.table lawful)
