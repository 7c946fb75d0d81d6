-- What an answer of a search says of the schedules of a pace.
use Rattle.std.specs.Prelude.{◌≡◌, ℕ, ◌+◌, ◌≤◌, true, List, [], ◌∷◌, ◌++◌, length, Option, None, Some}
use Rattle.apex_explore.specs.Paths.{ReachesExactly, ReachesWithin}
use Rattle.apex_explore.specs.declared.answers.Answer.{Answer}
use Rattle.apex_explore.specs.declared.answers.Answer.TheVariants.{Found, Closed, Full}
use Rattle.apex_machine.specs.Situations.{deed}
use Rattle.apex_machine.specs.table.Table.{Table}
use Rattle.apex_pace.specs.Pace.{KeepsPace, Paced, paced_opening, paced_run, paced_step}
use Rattle.apex_search.specs.Facts.{has_fact}
use Rattle.apex_search.specs.Steps.{Searched, makes, search_start}
use Rattle.apex_choices.specs.Choices.{event_of}
use Rattle.apex_search.specs.Terms.{Event}

-- the schedule keeps the pace, and the entry of its last event has the fact
pub record LeadsToFact (system : Searched) (events : List Event) : Type 0 where
  pub earlier : List Event
  pub last : Event
  pub is : events ≡ earlier ++ last ∷ []
  pub keeps : KeepsPace system.pace system.table (paced_opening system.table) events
  pub has : has_fact system.question
      (deed system.table (paced_run system.table (paced_opening system.table) earlier).situation
      last) ≡ true

-- the event, if it is allowed, and those that come after it
abbrev pub event_and_later : Table → Paced → Option Event → (Paced → List Event) → List Event
event_and_later table s None later = []
event_and_later table s (Some event) later = event ∷ later (paced_step table s event)

-- the events of the choices, from a situation on; they end at a choice that is not allowed
abbrev pub events_along : Searched → Paced → List ℕ → List Event
events_along system s [] = []
events_along system s (choice ∷ path) =
    event_and_later system.table s (event_of system.pace system.table s choice)
    (λ next. events_along system next path)

-- the schedule of a path
abbrev pub schedule_of : Searched → List ℕ → List Event
schedule_of system path = events_along system (paced_opening system.table) path

-- the path is that of a schedule that leads to the fact, and no shorter schedule does
pub record IsShortestSchedule (system : Searched) (path : List ℕ) : Type 0 where
  pub leads : LeadsToFact system (schedule_of system path)
  pub many : length (schedule_of system path) ≡ length path
  pub shortest : (other : List Event) → LeadsToFact system other → length path ≤ length other

-- no schedule of the pace leads to the fact, however long
abbrev pub NoSchedule : Searched → Type 0
NoSchedule system = (events : List Event) → LeadsToFact system events → ⊥

-- no schedule of at most this many events does
abbrev pub NoScheduleWithin : Searched → ℕ → Type 0
NoScheduleWithin system depth =
    (events : List Event) → length events ≤ depth → LeadsToFact system events → ⊥

-- the room for this many states is used up: paths of at most depth + 1 choices lead to more states
abbrev pub IsRoomUsedUp : Searched → ℕ → ℕ → Type 0
IsRoomUsedUp system room depth =
    ReachesWithin (makes system) (search_start system) (depth + 1) (room + 1)

-- the choices lead to exactly this many states
abbrev pub HasStates : Searched → ℕ → Type 0
HasStates system states = ReachesExactly (makes system) (search_start system) states

-- the statement of an answer of a search with room for this many states
abbrev pub SaysOfSchedules : Searched → ℕ → Answer → Type 0
SaysOfSchedules system room (Found path) = IsShortestSchedule system path.items
SaysOfSchedules system room (Closed states) = NoSchedule system × HasStates system states
SaysOfSchedules system room (Full depth) =
    NoScheduleWithin system depth × IsRoomUsedUp system room depth
