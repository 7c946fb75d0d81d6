-- The ways in which a search ends, by what was at fault.
use Rattle.std.proofs.Common.{◌≡◌, inl, inr, List, ℕ}
use Rattle.std.specs.Io.KnownBytes.{Appends, Keeps}
use Rattle.apex_incoming.specs.Ahead.{IsAhead}
use Rattle.apex_console.specs.Faults.{fault_of_read}
use Rattle.apex_console.specs.declared.CliFault.TheVariants.{Write}
use Rattle.apex_history.specs.Counted.{AppendsBeginning, CountsFault}
use Rattle.apex_history.specs.Ports.{AWriteFails, NoneFails, Ports}
use Rattle.apex_history.specs.declared.ReadFault.{ReadFault}
use Rattle.apex_history.specs.declared.ReadFault.TheVariants as read
use Rattle.apex_inquiries.specs.Ends.{fails}
use Rattle.apex_inquiries.specs.Searches.{IsAnswerFor, IsRefusalOf, SearchEnds, answered, asked_name, end_of_search, end_of, text_of, no_memory, no_process, refused, unread, unwritten}
use Rattle.apex_inquiries.specs.declared.searching.Answer.{Answer}
use Rattle.apex_inquiries.specs.declared.endings.SearchFault.{SearchFault}
use Rattle.apex_inquiries.specs.declared.endings.SearchFault.TheVariants.{Common, NoProcess, StatesFull}
use Rattle.apex_questions.specs.declared.Search.{Search}

module _ {search : Search} {before after : Ports} where
  -- bytes that were not read
  pub search_unread : (fault : ReadFault) → CountsFault fault before.failed_reads after.failed_reads → Keeps before.held after.held
      → after.failed_writes ≡ before.failed_writes → SearchEnds search before (fails (Common (fault_of_read fault))) after
  search_unread read.Memory counts held writes = no_memory held (counts, writes)
  search_unread read.Read counts held writes = unread held (counts, writes)

  module _ (text : List ℕ) (ahead : IsAhead text before.left) where
    -- a text that is refused, or a process that is missing
    pub search_refused : (fault : SearchFault) → IsRefusalOf (asked_name search.sought) text fault → Keeps before.held after.held → NoneFails before after
        → SearchEnds search before (fails fault) after
    search_refused (Common fault) (inl memory) held none = rw memory (no_memory held none)
    search_refused (Common fault) (inr (of, is, told)) held none = rw told (refused text ahead is held none)
    search_refused (NoProcess name) (table, is, missing) held none = no_process text table ahead is missing.0 missing.1 held none
    search_refused (StatesFull room) (table, is, missing) held none = absurd missing

    module _ (answer : Answer) (answers : IsAnswerFor search text answer) where
      -- an answer that was written whole, or not to its end
      pub search_answered : Appends before.held after.held (text_of search.room answer) → NoneFails before after
          → SearchEnds search before (end_of_search (end_of search.room answer)) after
      search_answered appends none = answered text answers.table (text_of search.room answer) ahead answers.of answers.says appends none

      pub search_unwritten : AppendsBeginning before.held after.held (text_of search.room answer) → AWriteFails before after
          → SearchEnds search before (fails (Common Write)) after
      search_unwritten begun fails_once =
          unwritten text answers.table (text_of search.room answer) ahead answers.of answers.says begun fails_once
