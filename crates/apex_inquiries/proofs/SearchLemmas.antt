-- The system of a search, and the faults of its table's text.
use Rattle.std.proofs.Common.{◌≡◌, ◌∙◌, ◌<◌, ap, arith, inl, inr, ℕ, List, [], ◌∷◌, length, Option, Some, refl, subst, sym, Ok, Err}
use Rattle.std.specs.Prelude.{Result}
use Rattle.clap.specs.Words.{Text}
use Rattle.apex_answers.specs.Answers.{IsAnswerOf}
use Rattle.apex_printouts.specs.Censuses.{ended}
use Rattle.apex_answers.specs.declared.SearchAnswer.{SearchAnswer}
use Rattle.apex_answers.specs.declared.WorstAnswer.{WorstAnswer}
use Rattle.apex_calls.specs.declared.Service.{Service}
use Rattle.apex_console.specs.Reports.{Refuses, answer_of, answer_to, refuses}
use Rattle.apex_console.specs.declared.CliFault.{CliFault}
use Rattle.apex_console.specs.declared.CliFault.TheVariants.{Table as Refused}
use Rattle.apex_machine.specs.table.Table.{Table}
use Rattle.apex_pace.specs.declared.paces.Pace.{Pace}
use Rattle.apex_search.specs.Census.{IsCensus}
use Rattle.apex_search.specs.Steps.{Searched}
use Rattle.apex_search.specs.declared.Census.{Census}
use Rattle.apex_search.specs.declared.End.TheVariants.{Closed}
use Rattle.apex_questions.specs.declared.Fact.{Fact}
use Rattle.apex_search.specs.declared.Finding.{Finding}
use Rattle.apex_table.specs.Reading.{table_of}
use Rattle.apex_words.specs.declared.TableFault.{TableFault}
use Rattle.apex_inquiries.specs.Searches.{HasFacts, HasGreatest, HasShortest, IsAnswerFor, IsMissing, IsRefusalOf, IsSystemOf, IsTextFault, asked_process, for_fact, end_of_search, for_facts, for_response, system_about}
use Rattle.apex_inquiries.specs.Ends.{found as found_one, unfound}
use Rattle.apex_inquiries.specs.declared.endings.SearchFault.{SearchFault}
use Rattle.apex_inquiries.specs.declared.endings.SearchFault.TheVariants.{Common, NoProcess, StatesFull}
use Rattle.apex_questions.specs.declared.Search.{Search}
use Rattle.apex_questions.specs.declared.Sought.TheVariants as sought
use Rattle.apex_inquiries.specs.declared.searching.Answer.TheVariants as answers

-- memory was refused, or the text is no table, by the result of reading it
abbrev IsFaultOfReading : Result Table TableFault → CliFault → Type 0
IsFaultOfReading read fault = (of : TableFault) × (read ≡ Err of) × (fault ≡ Refused of)

by_reading : (read : Result Table TableFault) (fault : CliFault) → answer_to [] read ≡ refuses fault → IsFaultOfReading read fault
by_reading (Err of) fault is = (of, refl, cc)
by_reading (Ok table) fault is = cc

pub text_fault : (text : List ℕ) (fault : CliFault) → Refuses fault (answer_of [] text) → IsTextFault text fault
text_fault text fault (inl memory) = inl memory
text_fault text fault (inr is) = inr (by_reading (table_of text) fault is)

-- the table has no process of the name or number that is asked for
pub missing_process : (asked : Option Text) (text : List ℕ) (table : Table) (fault : SearchFault) → table_of text ≡ Ok table
    → IsMissing table asked fault → IsRefusalOf asked text fault
missing_process asked text table (Common fault) is missing = absurd missing
missing_process asked text table (NoProcess name) is missing = (table, is, missing)
missing_process asked text table (StatesFull room) is missing = absurd missing

pub same_system : (pace : Pace) (facts : List Fact) (service : Option Service) (table : Table) (process : Option ℕ) (system : Searched)
    → system.table ≡ table → system.pace ≡ pace → system.question ≡ record { facts = facts; process = process; service = service }
    → system ≡ system_about table pace facts process service
same_system pace facts service table process system same at question = rw (sym same, sym at, sym question) refl

-- the system of a question
pub is_system : (pace : Pace) (facts : List Fact) (asked : Option Text) (service : Option Service) (text : List ℕ) (table : Table) (process : Option ℕ) (system : Searched)
    → table_of text ≡ Ok table → asked_process table asked ≡ Some process
    → system.table ≡ table → system.pace ≡ pace → system.question ≡ record { facts = facts; process = process; service = service }
    → IsSystemOf pace facts asked service text system
is_system pace facts asked service text table process system read found same at question = record {
  table = table;
  of = read;
  place = process;
  asked = found;
  is = same_system pace facts service table process system same at question;
}

-- it is that of the table of the text
pub system_table : (pace : Pace) (facts : List Fact) (asked : Option Text) (service : Option Service) (text : List ℕ) (system : Searched)
    → IsSystemOf pace facts asked service text system → table_of text ≡ Ok system.table
system_table pace facts asked service text system is = is.of ∙ ap Ok (sym (ap (λ (s : Searched). s.table) is.is))

-- the end of a census that is closed, by whether there is a finding
pub ends_without : (room states : ℕ) (found : List Finding) → length found ≡ 0 → end_of_search (ended room found (Closed states)) ≡ unfound
ends_without room states [] none = refl
ends_without room states (finding ∷ others) none = absurd (omega arith)

pub ends_with : (room states : ℕ) (found : List Finding) → 0 < length found → end_of_search (ended room found (Closed states)) ≡ found_one
ends_with room states [] some = absurd (omega arith)
ends_with room states (finding ∷ others) some = refl

-- what is found is what the search says
module _ (search : Search) (text : List ℕ) where
  pub fact_says : (fact : Fact) (process : Option Text) (service : Option Service) (answer : SearchAnswer)
      → search.sought ≡ sought.Fact fact process service → HasShortest search fact process service text answer
      → IsAnswerFor search text (answers.Fact answer)
  fact_says fact process service answer is has = record {
    table = has.is.table;
    of = has.is.of;
    says = for_fact fact process service has.is.place is has.is.asked
        (subst (λ (system : Searched). IsAnswerOf system search.room answer) has.is.is has.answers);
  }

  pub facts_say : (process : Option Text) (service : Option Service) (census : Census)
      → search.sought ≡ sought.Facts process service → HasFacts search process service text census
      → IsAnswerFor search text (answers.Facts census)
  facts_say process service census is has = record {
    table = has.is.table;
    of = has.is.of;
    says = for_facts process service has.is.place is has.is.asked (record {
      census = census;
      is = subst (λ (system : Searched). IsCensus system search.room census) has.is.is has.answers;
      text_is = refl;
      end_is = refl;
    });
  }

  pub response_says : (process : Text) (answer : WorstAnswer)
      → search.sought ≡ sought.Response process → HasGreatest search process text answer
      → IsAnswerFor search text (answers.Response answer)
  response_says process answer is has = record {
    table = has.table;
    of = has.of;
    says = for_response process has.place is has.asked has.answers;
  }
