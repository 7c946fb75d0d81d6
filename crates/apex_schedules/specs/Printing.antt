-- The items and the text of events.
use Rattle.std.specs.Prelude.{ℕ, Bool, false, ◌+◌, ◌<◌, ◌≤◌, List, [], ◌∷◌, ◌++◌, ◌==◌, codes, decimal, not, if◌then◌else◌, map}
use Rattle.std.specs.List.{position_or_len}
use Rattle.apex_types.specs.declared.limits.TheConstants.{MOST_CORES, MOST_TICKS}
use Rattle.apex_types.specs.declared.entries.Event.TheVariants as event
use Rattle.apex_calls.specs.CallText.{spaced}
use Rattle.apex_schedules.specs.Terms.{Event}
use Rattle.apex_schedules.specs.declared.schedule.Item.{Item}
use Rattle.apex_schedules.specs.declared.schedule.Item.TheVariants.{Turns, Tick}

-- one more turn before items: it is counted with the first item if this has turns of its core
abbrev pub with_turn : ℕ → List Item → List Item
with_turn core [] = Turns core 1 ∷ []
with_turn core (Tick ticks ∷ rest) = Turns core 1 ∷ Tick ticks ∷ rest
with_turn core (Turns other times ∷ rest) =
    if other == core then Turns other (times + 1) ∷ rest
    else Turns core 1 ∷ Turns other times ∷ rest

-- one more event before items
abbrev pub with_event : Event → List Item → List Item
with_event (event.Turn core) items = with_turn core items
with_event (event.Tick ticks) items = Tick ticks ∷ items

-- the items of events: each tick is one, and so are all turns of one core with no other event
-- between them
abbrev pub items_for : List Event → List Item
items_for [] = []
items_for (event ∷ rest) = with_event event (items_for rest)

-- a turn of this core
abbrev pub is_turn_of : ℕ → Event → Bool
is_turn_of core (event.Turn other) = other == core
is_turn_of core (event.Tick ticks) = false

-- the number of the events of the first item, by the first event
abbrev pub leading : Event → List Event → ℕ
leading (event.Turn core) events = position_or_len (λ e. not (is_turn_of core e)) events
leading (event.Tick ticks) events = 1

-- the item of this many events that are this one
abbrev pub item_for : Event → ℕ → Item
item_for (event.Turn core) times = Turns core times
item_for (event.Tick ticks) times = Tick ticks

-- a number of times behind a core: nothing for once
abbrev pub times_text : ℕ → List ℕ
times_text times = if times == 1 then [] else codes "*" ++ decimal times

-- the text of an item: `c`, `c*k` or `tN`
abbrev pub item_text : Item → List ℕ
item_text (Turns core times) = decimal core ++ times_text times
item_text (Tick ticks) = codes "t" ++ decimal ticks

-- the text of items, with one space between two
abbrev pub items_text : List Item → List ℕ
items_text items = spaced (map item_text items)

-- the text of events: nothing if there are none
abbrev pub schedule_text : List Event → List ℕ
schedule_text events = items_text (items_for events)

-- an event that a schedule may have
abbrev pub IsOfSchedule : Event → Type 0
IsOfSchedule (event.Turn core) = core < MOST_CORES
IsOfSchedule (event.Tick ticks) = (1 ≤ ticks) × (ticks ≤ MOST_TICKS)
