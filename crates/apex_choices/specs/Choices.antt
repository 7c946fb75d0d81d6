-- The choices of a paced situation: a turn of each core and the tick that may come.
use Rattle.std.specs.Prelude.{◌≡◌, ℕ, ◌+◌, ◌^◌, ◌<◌, nat_lt, Option, None, Some, option_map, if◌then◌else◌}
use Rattle.apex_choices.specs.Terms.{Event, Pace}
use Rattle.apex_machine.specs.Events.{IsWithin}
use Rattle.apex_machine.specs.table.Table.{Table}
use Rattle.apex_pace.specs.Pace.{Paced, may_turn, next_tick}
use Rattle.apex_types.specs.declared.entries.Event.TheVariants.{Turn, Tick}

-- the event of a choice, if it is allowed: a turn of the core of that number, or past the cores the
-- tick that may come
abbrev pub event_of : Pace → Table → Paced → ℕ → Option Event
event_of pace table s choice =
    if nat_lt choice table.cores then
    (if may_turn pace table s choice then Some (Turn choice) else None)
    else option_map Tick (next_tick pace table s)

-- a choice leads to this event
pub record IsChosen (pace : Pace) (table : Table) (s : Paced) (event : Event) : Type 0 where
  pub choice : ℕ
  pub found : event_of pace table s choice ≡ Some event
  pub within : IsWithin table.cores event

-- the counts still fit in words after the event
abbrev pub AreWordsAfter : Event → Paced → Type 0
AreWordsAfter (Turn core) s = s.turns core + 1 < 2 ^ 64
AreWordsAfter (Tick n) s = (core : ℕ) → s.worked core + n < 2 ^ 64
