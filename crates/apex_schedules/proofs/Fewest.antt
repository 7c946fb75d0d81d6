-- The items of events are the fewest that have these events.
use Rattle.std.proofs.Common.{◌≡◌, ℕ, zero, suc, ◌+◌, ◌≤◌, ◌==◌, Bool, true, false, refl, arith, List, [], ◌∷◌, ◌++◌, length, eqb-true}
use Rattle.std.specs.Prelude.{replicate}
use Rattle.std.proofs.lemmas.Bool.Decides.{nat_tests}
use Rattle.apex_types.specs.declared.entries.Event.TheVariants as event
use Rattle.apex_schedules.specs.Terms.{Event}
use Rattle.apex_schedules.specs.declared.schedule.Item.{Item}
use Rattle.apex_schedules.specs.declared.schedule.Item.TheVariants.{Turns, Tick}
use Rattle.apex_schedules.specs.Schedule.{events_of_items}
use Rattle.apex_schedules.specs.Printing.{items_for, with_turn}

-- the items begin with turns of the core, and at most n follow
abbrev Begins : ℕ → ℕ → List Item → Type 0
Begins core n items = (times : ℕ) × (rest : List Item) × (items ≡ Turns core times ∷ rest) × (length rest ≤ n)

first_turn : (core : ℕ) (items : List Item) → Begins core (length items) (with_turn core items)
first_turn core [] = (1, [], refl, omega arith)
first_turn core (Tick ticks ∷ items) = (1, Tick ticks ∷ items, refl, omega arith)
first_turn core (Turns other times ∷ items) = go (other == core) refl
  where
    go : (b : Bool) → (other == core) ≡ b → Begins core (length (Turns other times ∷ items)) (with_turn core (Turns other times ∷ items))
    go true t =
        let same : other ≡ core = eqb-true other core t in
        (times + 1, items, rw (t, same) refl, omega arith)
    go false t = (1, Turns other times ∷ items, rw t refl, omega arith)

next_turn : (core n : ℕ) (items : List Item) → Begins core n items → Begins core n (with_turn core items)
next_turn core n items (times, rest, split, few) =
    let same : (core == core) ≡ true = grind (arith, nat_tests) in
    (times + 1, rest, rw (split, same) refl, few)

turns : (core times : ℕ) (events : List Event) → Begins core (length (items_for events)) (items_for (replicate (suc times) (event.Turn core) ++ events))
turns core zero events = first_turn core (items_for events)
turns core (suc times) events = next_turn core (length (items_for events)) (items_for (replicate (suc times) (event.Turn core) ++ events)) (turns core times events)

one_item : (core n : ℕ) (items : List Item) → Begins core n items → length items ≤ suc n
one_item core n items (times, rest, split, few) = rw split (omega (arith, few))

turns_few : (core times : ℕ) (events : List Event) → length (items_for (replicate times (event.Turn core) ++ events)) ≤ suc (length (items_for events))
turns_few core zero events = omega arith
turns_few core (suc times) events = one_item core _ _ (turns core times events)

pub fewest : (items : List Item) → length (items_for (events_of_items items)) ≤ length items
fewest [] = omega arith
fewest (Turns core times ∷ items) =
    let whole = turns_few core times (events_of_items items) in
    let rest = fewest items in
    omega (arith, whole, rest)
fewest (Tick ticks ∷ items) =
    let rest = fewest items in
    omega (arith, rest)
