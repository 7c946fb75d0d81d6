-- What a search with room for some states says of the schedules of a pace.
use Rattle.std.specs.Prelude.{◌≡◌, ℕ, ◌<◌, ◌≤◌, true, List, [], ◌∷◌, ◌++◌, length, None, Some}
use Rattle.std.specs.List.{last_or}
use Rattle.apex_calls.specs.Lines.{line_of}
use Rattle.apex_machine.specs.Deeds.{Deed}
use Rattle.apex_machine.specs.Machine.{entry_of, opening, run}
use Rattle.apex_machine.specs.Situations.{deed as deed_of, maker}
use Rattle.apex_pace.specs.Pace.{paced_opening, paced_run}
use Rattle.apex_search.specs.Answers.{HasStates, IsRoomUsedUp, IsShortestSchedule, NoSchedule, NoScheduleWithin, schedule_of}
use Rattle.apex_search.specs.Facts.{has_fact}
use Rattle.apex_search.specs.Steps.{Searched}
use Rattle.apex_types.specs.declared.entries.Entry.{Entry}
use Rattle.apex_types.specs.declared.entries.Event.{Event}
use Rattle.apex_answers.specs.Texts.{found_text, line_in, never_text, states_text, within_text}
use Rattle.apex_answers.specs.declared.answers.SearchAnswer.{SearchAnswer}
use Rattle.apex_answers.specs.declared.answers.SearchAnswer.TheVariants.{Found, Never, NoneWithin, Beyond}

-- how a search ends
pub data SearchEnd : Type 0 where
  -- a schedule leads to the fact
  finds : SearchEnd
  -- no schedule does
  never : SearchEnd
  -- the room for this many states is used up
  is_full : ℕ → SearchEnd
  -- a shortest schedule that does has more events than the history has room for entries
  is_beyond : ℕ → SearchEnd

-- the entry is the last one of the events' run, and has the fact
pub record EndsInFact (system : Searched) (events : List Event) (entry : Entry) : Type 0 where
  pub earlier : List Event
  pub last : Event
  pub deed : Deed
  pub is : events ≡ earlier ++ last ∷ []
  pub done : deed
      ≡ deed_of system.table (paced_run system.table (paced_opening system.table) earlier).situation
      last
  pub has : has_fact system.question deed ≡ true
  pub entry_is : entry ≡ entry_of (length events) (maker last) deed
  pub ends : last_or None (run system.table (opening system.table) events).history ≡ Some entry

-- the text that a search with room for this many states may answer, and its end
pub data Says (system : Searched) (room : ℕ) : List ℕ → SearchEnd → Type 0 where
  -- the schedule is a shortest one that leads to the fact, the history has room for its entries, and
  -- the line is that of its last entry
  found : (path : List ℕ) (entry : Entry) → IsShortestSchedule system path
      → length path ≤ system.table.limit → EndsInFact system (schedule_of system path) entry
      → Says system room (found_text (schedule_of system path) (line_of system.table entry)) finds
  -- no schedule leads to the fact, and there are this many states
  none : (states : ℕ) → NoSchedule system × HasStates system states
      → Says system room (never_text states) never
  -- no schedule of at most this many events does, and the room for states is used up
  full : (depth : ℕ) → NoScheduleWithin system depth → IsRoomUsedUp system room depth
      → Says system room (within_text depth ++ states_text room) (is_full room)
  -- a shortest schedule that does has more events than the history has room for entries
  beyond : (path : List ℕ) → IsShortestSchedule system path → system.table.limit < length path
      → Says system room (within_text system.table.limit) (is_beyond system.table.limit)

-- the text of an answer
abbrev pub answer_text : ℕ → SearchAnswer → List ℕ
answer_text room (Found events kernel) =
    found_text events.items (line_in kernel.table (last_or None kernel.machine.history))
answer_text room (Never states) = never_text states
answer_text room (NoneWithin depth) = within_text depth ++ states_text room
answer_text room (Beyond limit) = within_text limit

-- the end of a search with this answer
abbrev pub answer_end : ℕ → SearchAnswer → SearchEnd
answer_end room (Found events kernel) = finds
answer_end room (Never states) = never
answer_end room (NoneWithin depth) = is_full room
answer_end room (Beyond limit) = is_beyond limit

-- the answer is one of a search with room for this many states
abbrev pub IsAnswerOf : Searched → ℕ → SearchAnswer → Type 0
IsAnswerOf system room answer = Says system room (answer_text room answer) (answer_end room answer)
