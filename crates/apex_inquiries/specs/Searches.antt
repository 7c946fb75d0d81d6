-- What a search is about, and how it ends.
use Rattle.std.specs.Prelude.{◌≡◌, ◌⊎◌, ℕ, List, [], ◌∷◌, Option, None, Some, Ok, Err, option_map}
use Rattle.std.specs.Io.KnownBytes.{Appends, Keeps}
use Rattle.clap.specs.Words.{Text}
use Rattle.apex_incoming.specs.Ahead.{IsAhead}
use Rattle.apex_console.specs.declared.CliFault.{CliFault}
use Rattle.apex_console.specs.declared.CliFault.TheVariants.{HistoryFull, Memory, Read, Table as Refused, Write}
use Rattle.apex_history.specs.Counted.{AppendsBeginning}
use Rattle.apex_history.specs.Ports.{AReadFails, AWriteFails, NoneFails, Ports}
use Rattle.apex_machine.specs.table.Table.{Table}
use Rattle.apex_pace.specs.declared.paces.Pace.{Pace}
use Rattle.apex_calls.specs.declared.Service.{Service}
use Rattle.apex_questions.specs.Facts.{all_facts}
use Rattle.apex_search.specs.Steps.{Searched, searched}
use Rattle.apex_questions.specs.declared.Fact.{Fact}
use Rattle.apex_table.specs.Reading.{table_of}
use Rattle.apex_words.specs.declared.TableFault.{TableFault}
use Rattle.apex_answers.specs.Answers.{IsAnswerOf, Says, SearchEnd, answer_end, answer_text, finds, is_beyond, is_full, never}
use Rattle.apex_printouts.specs.Censuses.{SaysCensus, census_end, census_text}
use Rattle.apex_answers.specs.Worst.{IsWorstAnswer, SaysWorst, worst_end, worst_text}
use Rattle.apex_answers.specs.declared.SearchAnswer.{SearchAnswer}
use Rattle.apex_answers.specs.declared.WorstAnswer.{WorstAnswer}
use Rattle.apex_names.specs.Processes.{place_of}
use Rattle.apex_search.specs.Census.{IsCensus}
use Rattle.apex_search.specs.declared.Census.{Census}
use Rattle.apex_inquiries.specs.declared.searching.Answer.{Answer}
use Rattle.apex_inquiries.specs.declared.searching.Answer.TheVariants as answers
use Rattle.apex_questions.specs.declared.Sought.{Sought}
use Rattle.apex_questions.specs.declared.Sought.TheVariants as sought
use Rattle.apex_inquiries.specs.Ends.{End, fails, found, unfound}
use Rattle.apex_inquiries.specs.declared.endings.SearchFault.{SearchFault}
use Rattle.apex_inquiries.specs.declared.endings.SearchFault.TheVariants.{Common, NoProcess, StatesFull}
use Rattle.apex_questions.specs.declared.Search.{Search}

-- the place of the process that a search is about, if it is about one; none if the table has no such
-- process
abbrev pub asked_process : Table → Option Text → Option (Option ℕ)
asked_process table None = Some None
asked_process table (Some text) = option_map Some (place_of table text)

-- the system of a table for a question about these facts, this process and this service, or any
abbrev pub system_about : Table → Pace → List Fact → Option ℕ → Option Service → Searched
system_about table pace facts process service =
    searched table pace (record { facts = facts; process = process; service = service })

-- the name or the number of the process that a search is about, if it is about one
abbrev pub asked_name : Sought → Option Text
asked_name (sought.Fact fact process service) = process
asked_name (sought.Facts process service) = process
asked_name (sought.Response process) = Some process

-- the text that a search may answer about a table, and its end, by what is looked for
pub data SaysFor (search : Search) (table : Table) : List ℕ → SearchEnd → Type 0 where
  -- one fact
  for_fact : (fact : Fact) (process : Option Text) (service : Option Service) (place : Option ℕ)
      → {text : List ℕ} {ends : SearchEnd} → search.sought ≡ sought.Fact fact process service
      → asked_process table process ≡ Some place
      → Says (system_about table search.pace (fact ∷ []) place service) search.room text ends
      → SaysFor search table text ends
  -- each fact
  for_facts : (process : Option Text) (service : Option Service) (place : Option ℕ)
      → {text : List ℕ} {ends : SearchEnd} → search.sought ≡ sought.Facts process service
      → asked_process table process ≡ Some place
      → SaysCensus (system_about table search.pace all_facts place service) search.room text ends
      → SaysFor search table text ends
  -- the greatest response of a process
  for_response : (process : Text) (place : ℕ)
      → {text : List ℕ} {ends : SearchEnd} → search.sought ≡ sought.Response process
      → place_of table process ≡ Some place
      → SaysWorst (system_about table search.pace all_facts None None) place search.room text ends
      → SaysFor search table text ends

-- the end of a search, by that of its answer
abbrev pub end_of_search : SearchEnd → End
end_of_search finds = found
end_of_search never = unfound
end_of_search (is_full room) = fails (StatesFull room)
end_of_search (is_beyond limit) = fails (Common (HistoryFull limit))

-- The ways in which a search ends: by what it is asked for, the reader and the writer before, the
-- end, and the reader and the writer afterwards.
pub data SearchEnds (search : Search) (before : Ports) : End → Ports → Type 0 where
  -- memory was refused: nothing was written
  no_memory : {after : Ports} → Keeps before.held after.held → NoneFails before after
      → SearchEnds search before (fails (Common Memory)) after
  -- a read failed: nothing was written
  unread : {after : Ports} → Keeps before.held after.held → AReadFails before after
      → SearchEnds search before (fails (Common Read)) after
  -- the bytes are refused: nothing was written
  refused : (bytes : List ℕ) → {fault : TableFault} {after : Ports} → IsAhead bytes before.left
      → table_of bytes ≡ Err fault → Keeps before.held after.held → NoneFails before after
      → SearchEnds search before (fails (Common (Refused fault))) after
  -- the table has no process of this name or number: nothing was written
  no_process : (bytes : List ℕ) (table : Table) → {name : Text} {after : Ports}
      → IsAhead bytes before.left → table_of bytes ≡ Ok table → asked_name search.sought ≡ Some name
      → place_of table name ≡ None → Keeps before.held after.held → NoneFails before after
      → SearchEnds search before (fails (NoProcess name)) after
  -- the whole answer was written
  answered : (bytes : List ℕ) (table : Table) (text : List ℕ)
      → {ends : SearchEnd} {after : Ports} → IsAhead bytes before.left → table_of bytes ≡ Ok table
      → SaysFor search table text ends
      → Appends before.held after.held text → NoneFails before after
      → SearchEnds search before (end_of_search ends) after
  -- a write failed: a prefix of the answer was written
  unwritten : (bytes : List ℕ) (table : Table) (text : List ℕ)
      → {ends : SearchEnd} {after : Ports} → IsAhead bytes before.left → table_of bytes ≡ Ok table
      → SaysFor search table text ends
      → AppendsBeginning before.held after.held text → AWriteFails before after
      → SearchEnds search before (fails (Common Write)) after

-- the text and the end of an answer
abbrev pub text_of : ℕ → Answer → List ℕ
text_of room (answers.Fact answer) = answer_text room answer
text_of room (answers.Facts census) = census_text room census
text_of room (answers.Response answer) = worst_text room answer

abbrev pub end_of : ℕ → Answer → SearchEnd
end_of room (answers.Fact answer) = answer_end room answer
end_of room (answers.Facts census) = census_end room census
end_of room (answers.Response answer) = worst_end room answer.worst

-- this is an answer of the search for the table of this text
pub record IsAnswerFor (search : Search) (text : List ℕ) (answer : Answer) : Type 0 where
  pub table : Table
  pub of : table_of text ≡ Ok table
  pub says : SaysFor search table (text_of search.room answer) (end_of search.room answer)

-- the system is that of a question about these facts, this service, and the process that is asked for,
-- for the table of this text
pub record IsSystemOf (pace : Pace) (facts : List Fact) (process : Option Text)
    (service : Option Service) (text : List ℕ) (system : Searched) : Type 0 where
  pub table : Table
  pub of : table_of text ≡ Ok table
  pub place : Option ℕ
  pub asked : asked_process table process ≡ Some place
  pub is : system ≡ system_about table pace facts place service

-- the answer is one of a search for this fact
pub record HasShortest (search : Search) (fact : Fact) (process : Option Text)
    (service : Option Service) (text : List ℕ) (answer : SearchAnswer) : Type 0 where
  pub system : Searched
  pub is : IsSystemOf search.pace (fact ∷ []) process service text system
  pub answers : IsAnswerOf system search.room answer

-- the census is one of a search for each fact
pub record HasFacts (search : Search) (process : Option Text) (service : Option Service)
    (text : List ℕ) (census : Census) : Type 0 where
  pub system : Searched
  pub is : IsSystemOf search.pace all_facts process service text system
  pub answers : IsCensus system search.room census

-- the answer is one of a search for the greatest response of the process of this name or number
pub record HasGreatest (search : Search) (process : Text) (text : List ℕ) (answer : WorstAnswer)
    : Type 0 where
  pub table : Table
  pub of : table_of text ≡ Ok table
  pub place : ℕ
  pub asked : place_of table process ≡ Some place
  pub answers : IsWorstAnswer (system_about table search.pace all_facts None None) place
      search.room answer

-- the table has no process of the name or number that is asked for
abbrev pub IsMissing : Table → Option Text → SearchFault → Type 0
IsMissing table asked (NoProcess name) = (asked ≡ Some name) × (place_of table name ≡ None)
IsMissing table asked _ = ⊥

-- memory was refused, or the text is no table
abbrev pub IsTextFault : List ℕ → CliFault → Type 0
IsTextFault text fault = (fault ≡ Memory)
    ⊎ ((of : TableFault) × (table_of text ≡ Err of) × (fault ≡ Refused of))

-- the same, or the table has no process of the name or number that is asked for
abbrev pub IsRefusalOf : Option Text → List ℕ → SearchFault → Type 0
IsRefusalOf asked text (Common fault) = IsTextFault text fault
IsRefusalOf asked text fault =
    (table : Table) × (table_of text ≡ Ok table) × IsMissing table asked fault
