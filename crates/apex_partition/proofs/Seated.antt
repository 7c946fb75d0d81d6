-- One seat for each core.
use Rattle.std.proofs.Common.{◌≡◌, ℕ, zero, suc, ◌+◌, ◌<◌, List, [], ◌∷◌, ◌++◌, refl, ap, ◌∙◌, subst, length, map, slice_index_or, arith}
use Rattle.std.specs.Prelude.{All}
use Rattle.std.specs.List.{AllByRecursion, range_with_len}
use Rattle.apex_machine.specs.table.Table.{Table}
use Rattle.apex_types.specs.declared.entries.Entry.{Entry}
use Rattle.apex_types.specs.declared.entries.Reply.{Reply}
use Rattle.apex_types.specs.declared.entries.Who.{Who}
use Rattle.apex_types.specs.declared.entries.Who.TheVariants.{Core, Ticker}
use Rattle.apex_machine.specs.Machine.{event_by, event_of, events_of}
use Rattle.apex_machine.specs.Events.{IsWithin}
use Rattle.apex_receipts.specs.Receipts.{Spoken, unspoken}
use Rattle.apex_partition.specs.Seats.{AreSeatsFrom, IsOneOf, IsSeated, IsSettled}

-- seats that have made nothing are seats of their cores
pub fresh_seats : (first n : ℕ) → AreSeatsFrom first (map (λ (core : ℕ). unspoken (Core core)) (range_with_len first n))
fresh_seats first zero = tt
fresh_seats first (suc n) = (refl, fresh_seats (first + 1) n)

pub count_fresh : (first n : ℕ) → length (map (λ (core : ℕ). unspoken (Core core)) (range_with_len first n)) ≡ n
count_fresh first zero = refl
count_fresh first (suc n) = omega (arith, count_fresh (first + 1) n)

-- an event of the table's cores or of the ticker is one of theirs
pub one_of : (cores : ℕ) (who : Who) (reply : Reply) → IsWithin cores (event_by who reply) → IsOneOf cores who
one_of cores (Core core) reply within = within
one_of cores Ticker reply within = tt

pub all_of : (cores : ℕ) (history : List Entry) → All (IsWithin cores) (events_of history)
    → All (λ (e : Entry). IsOneOf cores e.who) history
all_of cores [] all k d within = absurd (omega (arith, within))
all_of cores (e ∷ history) all zero d within = one_of cores e.who e.reply (all 0 (event_of e) (omega arith))
all_of cores (e ∷ history) all (suc k) d within =
    all_of cores history (λ j x below. all (suc j) x (omega (arith, below))) k d (omega (arith, within))

-- the seat behind some of those that have made nothing
pub unspoken_at : (first n : ℕ) (xs : List Spoken) (x : Spoken) (ys : List Spoken)
    → xs ++ x ∷ ys ≡ map (λ (core : ℕ). unspoken (Core core)) (range_with_len first n)
    → (x.who ≡ Core (first + length xs)) × (length xs < n)
unspoken_at first zero [] x ys same = absurd (cc same)
unspoken_at first zero (z ∷ xs) x ys same = absurd (cc same)
unspoken_at first (suc n) [] x ys same =
    let here : x ≡ unspoken (Core first) = cc same in
    (ap (λ (s : Spoken). s.who) here ∙ ap (λ (c : ℕ). Core c) (omega arith), omega arith)
unspoken_at first (suc n) (z ∷ xs) x ys same =
    let more = unspoken_at (first + 1) n xs x ys (cc same) in
    (more.0 ∙ ap (λ (c : ℕ). Core c) (omega arith), omega (arith, more.1))

-- settled seats, one by one
pub settled_from : (table : Table) (history : List Entry) (first : ℕ) (seats : List Spoken) → AreSeatsFrom first seats
    → AllByRecursion (λ (s : Spoken). IsSettled table history s.who s) seats
    → (k : ℕ) (d : Spoken) → k < length seats → IsSettled table history (Core (first + k)) (slice_index_or seats k d)
settled_from table history first [] seated settled k d within = absurd (omega (arith, within))
settled_from table history first (seat ∷ seats) seated settled zero d within =
    subst (λ (w : Who). IsSettled table history w seat) (seated.0 ∙ ap (λ (c : ℕ). Core c) (omega arith)) settled.0
settled_from table history first (seat ∷ seats) seated settled (suc k) d within =
    subst (λ (c : ℕ). IsSettled table history (Core c) (slice_index_or seats k d)) (omega arith)
    (settled_from table history (first + 1) seats seated.1 settled.1 k d (omega (arith, within)))

pub settled_at : (table : Table) (history : List Entry) (seats : List Spoken) → IsSeated seats
    → AllByRecursion (λ (s : Spoken). IsSettled table history s.who s) seats
    → (k : ℕ) (d : Spoken) → k < length seats → IsSettled table history (Core k) (slice_index_or seats k d)
settled_at table history seats seated settled k d within =
    subst (λ (c : ℕ). IsSettled table history (Core c) (slice_index_or seats k d)) (omega arith)
    (settled_from table history 0 seats seated settled k d within)

-- a list of no length
pub none_left : {A : Type 0} (xs : List A) → length xs ≡ 0 → xs ≡ []
none_left [] none = refl
none_left (x ∷ xs) none = absurd (omega (arith, none))
