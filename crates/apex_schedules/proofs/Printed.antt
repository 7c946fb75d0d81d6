-- The first item of events, and its text.
use Rattle.std.proofs.Common.{◌≡◌, ◌∙◌, ℕ, suc, ◌+◌, ◌<◌, ◌≤◌, ◌==◌, Bool, true, false, not, refl, sym, ap, arith, List, [], ◌∷◌, ◌++◌, Some, None, length, drop, take, ◌-◌, nat_lt, ltb-true, append_assoc, append-nil, eqb-true}
use Rattle.std.specs.List.{position, position_or_len}
use Rattle.std.specs.Prelude.{slice_get}
use Rattle.std.proofs.lemmas.List.{take_rest}
use Rattle.std.proofs.lemmas.Bool.Decides.{nat_tests}
use Rattle.apex_types.specs.declared.entries.Event.TheVariants as event
use Rattle.apex_schedules.specs.Terms.{Event}
use Rattle.apex_schedules.specs.declared.schedule.Item.{Item}
use Rattle.apex_schedules.specs.declared.schedule.Item.TheVariants.{Turns, Tick}
use Rattle.apex_schedules.specs.Printing.{is_turn_of, item_for, item_text, items_for, items_text, leading, schedule_text, with_turn}

-- the number of events before the first that passes a test
pub place_some : {X : Type 0} (p : X → Bool) (xs : List X) (i : ℕ) → position p xs ≡ Some i → (i ≡ position_or_len p xs) × (i ≤ length xs)
place_some p xs i found = go (nat_lt (position_or_len p xs) (length xs)) refl
  where
    go : (b : Bool) → nat_lt (position_or_len p xs) (length xs) ≡ b → (i ≡ position_or_len p xs) × (i ≤ length xs)
    go true t =
        let here : Some (position_or_len p xs) ≡ Some i = rw t at found in
        let place : position_or_len p xs ≡ i = cc in
        let below : position_or_len p xs < length xs = ltb-true _ _ t in
        (sym place, omega (arith, place, below))
    go false t =
        let nowhere : None ≡ Some i = rw t at found in
        absurd (cc nowhere)

at_most_all : {X : Type 0} (p : X → Bool) (xs : List X) → position_or_len p xs ≤ length xs
at_most_all p [] = omega arith
at_most_all p (x ∷ xs) =
    let later = at_most_all p xs in
    grind (arith, later)

pub place_none : {X : Type 0} (p : X → Bool) (xs : List X) → position p xs ≡ None → length xs ≡ position_or_len p xs
place_none p xs found = go (nat_lt (position_or_len p xs) (length xs)) refl
  where
    go : (b : Bool) → nat_lt (position_or_len p xs) (length xs) ≡ b → length xs ≡ position_or_len p xs
    go true t =
        let here : Some (position_or_len p xs) ≡ None = rw t at found in
        absurd (cc here)
    go false t = grind (arith, nat_tests, t, at_most_all p xs)

same_core : (core : ℕ) → (core == core) ≡ true
same_core core = grind (arith, nat_tests)

leading_more : (core : ℕ) (events : List Event) → leading (event.Turn core) (event.Turn core ∷ events) ≡ 1 + leading (event.Turn core) events
leading_more core events = rw (same_core core) refl

pub leads : (core : ℕ) (events : List Event) → slice_get events 0 ≡ Some (event.Turn core) → 1 ≤ position_or_len (λ e. not (is_turn_of core e)) events
leads core [] first = absurd (cc first)
leads core (e ∷ events) first =
    let same : e ≡ event.Turn core = cc in
    rw (same, same_core core) (omega arith)

-- the first turn of a core before its leading turns
leading_none : (core other : ℕ) (events : List Event) → (other == core) ≡ false → leading (event.Turn core) (event.Turn other ∷ events) ≡ 0
leading_none core other events differ = rw differ refl

-- one more leading turn
one_more : (core : ℕ) (rest : List Event)
    → items_for (event.Turn core ∷ rest) ≡ Turns core (leading (event.Turn core) rest + 1) ∷ items_for (drop (leading (event.Turn core) rest) rest)
    → items_for (event.Turn core ∷ event.Turn core ∷ rest)
    ≡ Turns core (leading (event.Turn core) (event.Turn core ∷ rest) + 1) ∷ items_for (drop (leading (event.Turn core) (event.Turn core ∷ rest)) (event.Turn core ∷ rest))
one_more core rest before =
    let count : 1 + leading (event.Turn core) rest ≡ suc (leading (event.Turn core) rest) = omega arith in
    let times : suc (leading (event.Turn core) rest) + 1 ≡ leading (event.Turn core) rest + 1 + 1 = omega arith in
    ap (with_turn core) before ∙ rw (same_core core, count, times) refl

-- turns of another core lead
other_first : (core other : ℕ) (rest : List Event) → (other == core) ≡ false
    → items_for (event.Turn other ∷ rest) ≡ Turns other (leading (event.Turn other) rest + 1) ∷ items_for (drop (leading (event.Turn other) rest) rest)
    → items_for (event.Turn core ∷ event.Turn other ∷ rest)
    ≡ Turns core (leading (event.Turn core) (event.Turn other ∷ rest) + 1) ∷ items_for (drop (leading (event.Turn core) (event.Turn other ∷ rest)) (event.Turn other ∷ rest))
other_first core other rest differ before =
    let apart : with_turn core (Turns other (leading (event.Turn other) rest + 1) ∷ items_for (drop (leading (event.Turn other) rest) rest))
    ≡ Turns core 1 ∷ Turns other (leading (event.Turn other) rest + 1) ∷ items_for (drop (leading (event.Turn other) rest) rest) = rw differ refl in
    ap (with_turn core) before ∙ apart ∙ ap (λ items. Turns core 1 ∷ items) (sym before) ∙ rw (leading_none core other rest differ) refl

-- the turns of a core at the front are one item
pub turns_lead : (core : ℕ) (events : List Event)
    → items_for (event.Turn core ∷ events) ≡ Turns core (leading (event.Turn core) events + 1) ∷ items_for (drop (leading (event.Turn core) events) events)
turns_lead core [] = refl
turns_lead core (event.Tick ticks ∷ rest) = refl
turns_lead core (event.Turn other ∷ rest) = go (other == core) refl (turns_lead core rest) (turns_lead other rest)
  where
    go : (b : Bool) → (other == core) ≡ b
        → items_for (event.Turn core ∷ rest) ≡ Turns core (leading (event.Turn core) rest + 1) ∷ items_for (drop (leading (event.Turn core) rest) rest)
        → items_for (event.Turn other ∷ rest) ≡ Turns other (leading (event.Turn other) rest + 1) ∷ items_for (drop (leading (event.Turn other) rest) rest)
        → items_for (event.Turn core ∷ event.Turn other ∷ rest)
        ≡ Turns core (leading (event.Turn core) (event.Turn other ∷ rest) + 1) ∷ items_for (drop (leading (event.Turn core) (event.Turn other ∷ rest)) (event.Turn other ∷ rest))
    go true t mine others =
        let same : other ≡ core = eqb-true other core t in
        rw same (one_more core rest mine)
    go false t mine others = other_first core other rest t others

-- the events begin with those of the first item
pub first_item : (first : Event) (events : List Event) → slice_get events 0 ≡ Some first
    → items_for events ≡ item_for first (leading first events) ∷ items_for (drop (leading first events) events)
first_item first [] found = absurd (cc found)
first_item (event.Tick ticks) (e ∷ rest) found =
    let same : e ≡ event.Tick ticks = cc in
    rw same refl
first_item (event.Turn core) (e ∷ rest) found =
    let same : e ≡ event.Turn core = cc in
    let count : leading (event.Turn core) (event.Turn core ∷ rest) ≡ suc (leading (event.Turn core) rest) = leading_more core rest ∙ omega arith in
    let times : leading (event.Turn core) rest + 1 ≡ suc (leading (event.Turn core) rest) = omega arith in
    rw (same, count) (turns_lead core rest ∙ ap (λ k. Turns core k ∷ items_for (drop (leading (event.Turn core) rest) rest)) times)

-- events have items
some_items : (event : Event) (rest : List Event) → (item : Item) × (items : List Item) × (items_for (event ∷ rest) ≡ item ∷ items)
some_items (event.Tick ticks) rest = (Tick ticks, items_for rest, refl)
some_items (event.Turn core) rest = (_, _, turns_lead core rest)

-- an item, a space and more events are put
pub put_more : (text : List ℕ) (first : Event) (events : List Event) → slice_get events 0 ≡ Some first → 0 < length (drop (leading first events) events)
    → (text ++ item_text (item_for first (leading first events)) ++ 32 ∷ []) ++ schedule_text (drop (leading first events) events) ≡ text ++ schedule_text events
put_more text first events found some = go (drop (leading first events) events) refl some
  where
    item : List ℕ
    item = item_text (item_for first (leading first events))

    go : (rest : List Event) → drop (leading first events) events ≡ rest → 0 < length rest → (text ++ item ++ 32 ∷ []) ++ schedule_text rest ≡ text ++ schedule_text events
    go [] e none = absurd (omega arith)
    go (event ∷ more) e some =
        let (next, items, split) = some_items event more in
        let whole : schedule_text events ≡ item ++ 32 ∷ items_text (next ∷ items) =
        ap items_text (first_item first events found ∙ ap (λ r. item_for first (leading first events) ∷ items_for r) e ∙ ap (λ is. item_for first (leading first events) ∷ is) split) in
        rw (whole, split) (append_assoc (text ++ item) (32 ∷ []) (items_text (next ∷ items)) ∙ append_assoc text item (32 ∷ items_text (next ∷ items)))

-- the last item is put
pub put_last : (text : List ℕ) (first : Event) (events : List Event) → slice_get events 0 ≡ Some first → length (drop (leading first events) events) ≡ 0
    → (text ++ item_text (item_for first (leading first events))) ++ schedule_text (drop (leading first events) events) ≡ text ++ schedule_text events
put_last text first events found none = go (drop (leading first events) events) refl none
  where
    item : List ℕ
    item = item_text (item_for first (leading first events))

    go : (rest : List Event) → drop (leading first events) events ≡ rest → length rest ≡ 0 → (text ++ item) ++ schedule_text rest ≡ text ++ schedule_text events
    go (event ∷ more) e none = absurd (omega arith)
    go [] e none =
        let whole : schedule_text events ≡ item =
        ap items_text (first_item first events found ∙ ap (λ r. item_for first (leading first events) ∷ items_for r) e) in
        rw whole (append-nil (text ++ item))

-- the same, with the events that are left as a range of the events
pub more_left : (text item put : List ℕ) (first : Event) (events : List Event) (n : ℕ) → slice_get events 0 ≡ Some first → n ≡ leading first events
    → 0 < length (take (length events - n) (drop n events)) → item ≡ text ++ item_text (item_for first n) → put ≡ item ++ 32 ∷ []
    → put ++ schedule_text (take (length events - n) (drop n events)) ≡ text ++ schedule_text events
more_left text item put first events n found count some first_put then_put =
    let left : take (length events - n) (drop n events) ≡ drop (leading first events) events = take_rest events n ∙ ap (λ k. drop k events) count in
    rw (left, then_put, first_put, count) (put_more text first events found (rw left at some))

-- the same, if no events are left
pub none_left : (text put : List ℕ) (first : Event) (events : List Event) (n : ℕ) → slice_get events 0 ≡ Some first → n ≡ leading first events
    → length (take (length events - n) (drop n events)) ≡ 0 → put ≡ text ++ item_text (item_for first n)
    → put ++ schedule_text (take (length events - n) (drop n events)) ≡ text ++ schedule_text events
none_left text put first events n found count none first_put =
    let left : take (length events - n) (drop n events) ≡ drop (leading first events) events = take_rest events n ∙ ap (λ k. drop k events) count in
    rw (left, first_put, count) (put_last text first events found (rw left at none))
