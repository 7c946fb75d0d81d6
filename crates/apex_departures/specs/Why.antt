-- The reason of an entry of a history.
use Rattle.std.specs.Prelude.{◌≡◌, ◌⊎◌, ℕ, ◌-◌, ◌<◌, ◌≤◌, List, length, take, slice_get, Some}
use Rattle.apex_machine.specs.table.Table.{Table}
use Rattle.apex_machine.specs.Machine.{opening, run, situation_of}
use Rattle.apex_machine.specs.Situations.{Situation, deed}
use Rattle.apex_reasons.specs.Reasons.{reason_of, IsReasonOf}
use Rattle.apex_reasons.specs.Texts.{reason_text}
use Rattle.apex_departures.specs.Terms.{Event}

-- the situation of the machine after these events
abbrev pub situation_after : Table → List Event → Situation
situation_after table events = situation_of table (run table (opening table) events)

-- the text is that of the reason of an event behind these events, and the reason is that of its deed
pub record IsReasonBehind (table : Table) (before : List Event) (event : Event) (text : List ℕ) :
    Type 0 where
  pub reads : text ≡ reason_text table (reason_of table (situation_after table before) event)
  pub deed : IsReasonOf (situation_after table before) event
      (reason_of table (situation_after table before) event)
      (deed table (situation_after table before) event)

-- the event of this number, counted from 1, and the events before it
pub record IsNumbered (events : List Event) (number : ℕ) (before : List Event) (event : Event) :
    Type 0 where
  pub counted : 1 ≤ number
  pub front : before ≡ take (number - 1) events
  pub held : slice_get events (number - 1) ≡ Some event

-- the text is that of the reason of the event of this number
pub record IsReasonAt (table : Table) (events : List Event) (number : ℕ) (text : List ℕ) :
    Type 0 where
  pub before : List Event
  pub event : Event
  pub numbered : IsNumbered events number before event
  pub behind : IsReasonBehind table before event text

-- an event has this number
abbrev pub HasEvent : List Event → ℕ → Type 0
HasEvent events number = (1 ≤ number) × (number ≤ length events)

-- no event has it
abbrev pub LacksEvent : List Event → ℕ → Type 0
LacksEvent events number = (number ≡ 0) ⊎ (length events < number)
