-- The open groups of a reading, and what each piece does to them.
use Rattle.std.proofs.Common.{◌≡◌, ◌∙◌, ℕ, ◌+◌, ◌-◌, ◌*◌, ◌<◌, ◌≤◌, refl, sym, ap, subst, arith, List, [], ◌∷◌, ◌++◌, Option, Some, None, Ok, Err, length, drop, take, append_assoc, append-nil, length-append, length-drop}
use Rattle.std.specs.Prelude.{IfSome, replicate, reverse}
use Rattle.std.specs.List.{flat_map}
use Rattle.std.proofs.lemmas.List.{drop-append-le, take-append-le, take-append-drop, length-take-le, reverse-append}
use Rattle.std.proofs.lemmas.List.Concat.{length-flat_map}
use Rattle.std.proofs.lemmas.List.Folds.{sum_by-replicate}
use Rattle.std.proofs.Math.Nat.{mul_comm}
use Rattle.apex_types.specs.declared.limits.TheConstants.{MOST_ENTRIES}
use Rattle.apex_schedules.specs.declared.groups.Refusal.TheVariants as refusal
use Rattle.apex_schedules.specs.declared.pieces.Piece.{Piece}
use Rattle.apex_schedules.specs.declared.pieces.Piece.TheVariants as piece
use Rattle.apex_schedules.specs.declared.schedule.Item.{Item}
use Rattle.apex_schedules.specs.Groups.{IsTooMuch, items_behind, repeated}
use Rattle.apex_schedules.specs.Readings.{AreStarts, IsReading, IsTaken, inner, items_after, outer}

-- items put behind the others are in the innermost group
inner_append : (a b : List Item) (starts : List ℕ) → AreStarts (length a) starts → inner (a ++ b) starts ≡ inner a starts ++ b
inner_append a b [] ordered = refl
inner_append a b (start ∷ more) ordered = drop-append-le start a b ordered.0

outer_append : (a b : List Item) (starts : List ℕ) → AreStarts (length a) starts → outer (a ++ b) starts ≡ outer a starts
outer_append a b [] ordered = refl
outer_append a b (start ∷ more) ordered =
    ap (λ kept. inner kept more ∷ outer kept more) (take-append-le start a b ordered.0)

behind_append : (a b : List Item) (starts : List ℕ) (rest : List (Option Piece)) → AreStarts (length a) starts
    → items_behind (inner (a ++ b) starts) (outer (a ++ b) starts) rest ≡ items_behind (inner a starts ++ b) (outer a starts) rest
behind_append a b starts rest ordered = rw (inner_append a b starts ordered, outer_append a b starts ordered) refl

more_room : (n m : ℕ) (starts : List ℕ) → n ≤ m → AreStarts n starts → AreStarts m starts
more_room n m [] le ordered = tt
more_room n m (start ∷ more) le ordered = (omega (arith, le, ordered.0), ordered.1)

-- how many items there are

total : List (List Item) → ℕ
total [] = 0
total (outer ∷ more) = length outer + total more

sizes : (items : List Item) (starts : List ℕ) → AreStarts (length items) starts → length (inner items starts) + total (outer items starts) ≡ length items
unfolding total
sizes items [] ordered = omega arith
sizes items (start ∷ more) ordered =
    let kept : length (take start items) ≡ start = length-take-le start items ordered.0 in
    let before : length (inner (take start items) more) + total (outer (take start items) more) ≡ length (take start items) = sizes (take start items) more (rw kept ordered.1) in
    omega (arith, before, kept, length-drop start items, ordered.0)

-- pieces never take items away
grows : (n : ℕ) (items : List Item) (outers : List (List Item)) (pieces : List (Option Piece)) → n < length items + total outers
    → IfSome (items_behind items outers pieces) (λ xs. n < length xs)
unfolding total
grows n items [] [] many = omega (arith, many)
grows n items (outer ∷ more) [] many = tt
grows n items outers (None ∷ rest) many = tt
grows n items outers (Some (piece.Single item) ∷ rest) many =
    grows n (items ++ item ∷ []) outers rest (omega (arith, many, length-append items (item ∷ [])))
grows n items outers (Some piece.Open ∷ rest) many = grows n [] (items ∷ outers) rest (omega (arith, many))
grows n items [] (Some (piece.Close times) ∷ rest) many = tt
grows n items (outer ∷ more) (Some (piece.Close times) ∷ rest) many =
    let copies : List Item = flat_map (λ copy. copy) (replicate (times - 1) items) in
    grows n (outer ++ repeated times items) more rest (omega (arith, many, length-append outer (repeated times items), length-append items copies))

-- each open group can be closed behind the pieces, and then there are as many items
closes_all : (items : List Item) (outers : List (List Item))
    → (rest : List (Option Piece)) × (xs : List Item) × (items_behind items outers rest ≡ Some xs) × (length xs ≡ length items + total outers)
unfolding total
closes_all items [] = ([], items, refl, omega arith)
closes_all items (outer ∷ more) =
    let (rest, xs, is, size) = closes_all (outer ++ repeated 1 items) more in
    let same : length (outer ++ repeated 1 items) ≡ length outer + length items =
    length-append outer (repeated 1 items) ∙ ap (λ n. length outer + length n) (append-nil items) in
    (Some (piece.Close 1) ∷ rest, xs, is, omega (arith, size, same))

closes : (items : List Item) (outers : List (List Item))
    → (rest : List (Option Piece)) × (xs : List Item) × (items_behind items outers rest ≡ Some xs)
closes items outers = let (rest, xs, is, size) = closes_all items outers in (rest, xs, is)

-- behind a reading each open group can be closed, and then the items are not too many
pub closes_within : (items : List Item) (starts : List ℕ) → IsReading items starts
    → (rest : List (Option Piece)) × (xs : List Item) × (items_after items starts rest ≡ Some xs) × (length xs ≤ MOST_ENTRIES)
closes_within items starts reading =
    let (rest, xs, is, size) = closes_all (inner items (reverse starts)) (outer items (reverse starts)) in
    (rest, xs, is, omega (arith, size, sizes items (reverse starts) reading.1, reading.0))

-- each piece

pub item_taken : (items : List Item) (starts : List ℕ) (item : Item) → IsReading items starts → length items < MOST_ENTRIES
    → IsTaken items starts (Some (piece.Single item)) (Ok tt) (items ++ item ∷ []) starts
item_taken items starts item reading few =
    let longer : length (items ++ item ∷ []) ≡ length items + 1 = length-append items (item ∷ []) in (
      (omega (arith, longer, few), more_room (length items) _ (reverse starts) (omega (arith, longer)) reading.1),
      λ rest. sym (behind_append items (item ∷ []) (reverse starts) rest reading.1),
    )

pub item_refused : (items : List Item) (starts : List ℕ) (item : Item) → IsReading items starts → MOST_ENTRIES ≤ length items
    → IsTaken items starts (Some (piece.Single item)) (Err refusal.TooMany) items starts
item_refused items starts item reading many =
    let longer : List Item = inner items (reverse starts) ++ item ∷ [] in
    let around : List (List Item) = outer items (reverse starts) in
    record {
      many = λ rest.
          grows MOST_ENTRIES longer around rest
          (omega (arith, many, sizes items (reverse starts) reading.1, length-append (inner items (reverse starts)) (item ∷ [])));
      some = closes longer around;
    }

-- a group is closed: the reading before it, and the items with the group's copies behind them
closed : (items : List Item) (start : ℕ) (more : List ℕ) (times : ℕ) (rest : List (Option Piece)) → AreStarts (length items) (start ∷ more)
    → items_behind (inner items (start ∷ more)) (outer items (start ∷ more)) (Some (piece.Close times) ∷ rest)
    ≡ items_behind (inner (items ++ flat_map (λ copy. copy) (replicate (times - 1) (drop start items))) more) (outer (items ++ flat_map (λ copy. copy) (replicate (times - 1) (drop start items))) more) rest
closed items start more times rest ordered =
    let kept : length (take start items) ≡ start = length-take-le start items ordered.0 in
    let copies : List Item = flat_map (λ copy. copy) (replicate (times - 1) (drop start items)) in
    let whole : take start items ++ (drop start items ++ copies) ≡ items ++ copies =
    sym (append_assoc (take start items) (drop start items) copies) ∙ ap (λ xs. xs ++ copies) (take-append-drop start items) in
    sym (behind_append (take start items) (repeated times (drop start items)) more rest (rw kept ordered.1))
    ∙ ap (λ xs. items_behind (inner xs more) (outer xs more) rest) whole

copies_length : (copies : ℕ) (items : List Item) → length (flat_map (λ copy. copy) (replicate copies items)) ≡ copies * length items
copies_length copies items = length-flat_map (λ copy. copy) (replicate copies items) ∙ sum_by-replicate (λ copy. length copy) copies items

turned_end : (starts : List ℕ) (start : ℕ) → reverse (starts ++ start ∷ []) ≡ start ∷ reverse starts
turned_end starts start = reverse-append starts (start ∷ [])

pub close_taken : (items : List Item) (starts all : List ℕ) (start times : ℕ) (new : List Item) → all ≡ starts ++ start ∷ [] → IsReading items all
    → new ≡ items ++ flat_map (λ copy. copy) (replicate (times - 1) (drop start items))
    → length items + (length items - start) * (times - 1) ≤ MOST_ENTRIES
    → IsTaken items all (Some (piece.Close times)) (Ok tt) new starts
close_taken items starts all start times new e reading put few =
    let turned : reverse all ≡ start ∷ reverse starts = ap reverse e ∙ turned_end starts start in
    let ordered : AreStarts (length items) (start ∷ reverse starts) = subst (AreStarts (length items)) turned reading.1 in
    let copies : List Item = flat_map (λ copy. copy) (replicate (times - 1) (drop start items)) in
    let longer : length new ≡ length items + length copies = ap length put ∙ length-append items copies in
    let count : length copies ≡ (length items - start) * (times - 1) =
    copies_length (times - 1) (drop start items) ∙ mul_comm (times - 1) (length (drop start items)) ∙ ap (λ n. n * (times - 1)) (length-drop start items) in (
      (omega (arith, longer, count, few), more_room start _ (reverse starts) (omega (arith, longer, ordered.0)) ordered.1),
      λ rest. rw (turned, put) (closed items start (reverse starts) times rest ordered),
    )

pub close_refused : (items : List Item) (starts all : List ℕ) (start times : ℕ) → all ≡ starts ++ start ∷ [] → IsReading items all
    → MOST_ENTRIES < length items + (length items - start) * (times - 1)
    → IsTooMuch (λ rest. items_after items all (Some (piece.Close times) ∷ rest))
close_refused items starts all start times e reading many =
    let turned : reverse all ≡ start ∷ reverse starts = ap reverse e ∙ turned_end starts start in
    let ordered : AreStarts (length items) (start ∷ reverse starts) = subst (AreStarts (length items)) turned reading.1 in
    let copies : List Item = flat_map (λ copy. copy) (replicate (times - 1) (drop start items)) in
    let longer : length (items ++ copies) ≡ length items + length copies = length-append items copies in
    let count : length copies ≡ (length items - start) * (times - 1) =
    copies_length (times - 1) (drop start items) ∙ mul_comm (times - 1) (length (drop start items)) ∙ ap (λ n. n * (times - 1)) (length-drop start items) in
    let size = sizes (items ++ copies) (reverse starts) (more_room start _ (reverse starts) (omega (arith, longer, ordered.0)) ordered.1) in
    let written : List Item = inner (items ++ copies) (reverse starts) in
    let around : List (List Item) = outer (items ++ copies) (reverse starts) in
    let (end, xs, is) = closes written around in
    record {
      many = λ rest.
          rw (turned, closed items start (reverse starts) times rest ordered)
          (grows MOST_ENTRIES written around rest (omega (arith, size, longer, count, many)));
      some = (end, xs, rw turned (closed items start (reverse starts) times end ordered ∙ is));
    }
