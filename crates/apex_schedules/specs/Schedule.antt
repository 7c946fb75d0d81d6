-- The items of a schedule's text, and their events.
use Rattle.std.specs.Prelude.{ℕ, Bool, true, List, [], ◌∷◌, Option, Some, None, map, option_map, option_and_then}
use Rattle.std.specs.Prelude.{◌==◌, nat_lt, if◌then◌else◌, replicate}
use Rattle.std.specs.List.{list_all, flat_map}
use Rattle.apex_types.specs.declared.limits.TheConstants.{MOST_ENTRIES}
use Rattle.apex_schedules.specs.Terms.{Event}
use Rattle.apex_types.specs.declared.entries.Event.TheVariants as event
use Rattle.apex_schedules.specs.declared.schedule.Item.{Item}
use Rattle.apex_schedules.specs.declared.schedule.Item.TheVariants.{Turns, Tick}
use Rattle.apex_types.specs.Numbers.{number_of, at_least, at_most}
use Rattle.apex_history.specs.Words.{parts, core_of, ticks_of}

-- the values, if each is there
abbrev pub all_some : {X : Type 0} → List (Option X) → Option (List X)
all_some [] = Some []
all_some (value ∷ rest) =
    option_and_then (λ x. option_map (λ xs. x ∷ xs) (all_some rest)) value

-- the number of a word, 1 to 65,536
abbrev pub positive_of : List ℕ → Option ℕ
positive_of word = at_least 1 (at_most MOST_ENTRIES (number_of word))

-- the number of times, by the parts after the core: once if there are none
abbrev pub times_after : List (List ℕ) → Option ℕ
times_after [] = Some 1
times_after (times ∷ []) = positive_of times
times_after (times ∷ next ∷ rest) = None

-- `c`, one turn of a core, or `c*k`, k turns of it, by the parts of the word
abbrev pub turns_of_parts : List (List ℕ) → Option Item
turns_of_parts [] = None
turns_of_parts (core ∷ after) =
    option_and_then (λ c. option_map (Turns c) (times_after after)) (core_of core)

-- an item's word: `tN`, with the number behind the `t` (116), or turns, with `*` (42) before the
-- number of times
abbrev pub item_of : List ℕ → Option Item
item_of [] = None
item_of (first ∷ rest) =
    if first == 116 then option_map Tick (ticks_of rest)
    else turns_of_parts (parts 42 (first ∷ rest))

-- the items of a schedule's text, with one space (32) between two; none if one is ill-formed
abbrev pub items_of : List ℕ → Option (List Item)
items_of text = all_some (map item_of (parts 32 text))

-- the events of an item
abbrev pub events_of_item : Item → List Event
events_of_item (Turns core times) = replicate times (event.Turn core)
events_of_item (Tick ticks) = event.Tick ticks ∷ []

-- the events of the items, in order
abbrev pub events_of_items : List Item → List Event
events_of_items items = flat_map events_of_item items

-- turns are of a core below `cores`; a tick is of no core
unfoldable pub is_core_below : ℕ → Item → Bool
is_core_below cores (Turns core times) = nat_lt core cores
is_core_below cores (Tick ticks) = true

-- the turns of every item are of a core below `cores`
abbrev pub are_cores_below : ℕ → List Item → Bool
are_cores_below cores items = list_all (is_core_below cores) items
