-- A reading of a schedule with groups, by the items that it has written out and the number of items
-- before each open group.
use Rattle.std.specs.Prelude.{◌≡◌, ℕ, ◌+◌, ◌≤◌, ⊤, List, [], ◌∷◌, ◌++◌, Option, None, Some, Result, Ok, Err, count_by, drop, length, map, reverse, take}
use Rattle.apex_types.specs.declared.limits.TheConstants.{MOST_ENTRIES}
use Rattle.apex_schedules.specs.declared.groups.Place.{Place}
use Rattle.apex_schedules.specs.declared.groups.Refusal.{Refusal}
use Rattle.apex_schedules.specs.declared.groups.Refusal.TheVariants as refusal
use Rattle.apex_schedules.specs.declared.groups.ScheduleFault.{ScheduleFault}
use Rattle.apex_schedules.specs.declared.groups.ScheduleFault.TheVariants as fault
use Rattle.apex_schedules.specs.declared.pieces.Piece.{Piece}
use Rattle.apex_schedules.specs.declared.schedule.Item.{Item}
use Rattle.apex_schedules.specs.Groups.{BeginsWithNoGap, BeginsWithTooMany, CanBeFinished, IsIllFormedBehind, IsTooMuch, IsTooMuchBehind, filled, grouped_items_of, is_item, items_behind, piece_of, pieces_of, words}

-- the items of the innermost open group; the starts are those of the groups, innermost first
abbrev pub inner : List Item → List ℕ → List Item
inner items [] = items
inner items (start ∷ more) = drop start items

-- the items round each open group, innermost first
abbrev pub outer : List Item → List ℕ → List (List Item)
outer items [] = []
outer items (start ∷ more) = inner (take start items) more ∷ outer (take start items) more

-- each group starts in the group round it, and the innermost within n items
abbrev pub AreStarts : ℕ → List ℕ → Type 0
AreStarts n [] = ⊤
AreStarts n (start ∷ more) = (start ≤ n) × AreStarts start more

-- the items are not too many, and each group starts in the group round it
abbrev pub IsReading : List Item → List ℕ → Type 0
IsReading items starts = (length items ≤ MOST_ENTRIES) × AreStarts (length items) (reverse starts)

-- the items that the reading and pieces behind it write out; its starts are those of the groups,
-- innermost last
abbrev pub items_after : List Item → List ℕ → List (Option Piece) → Option (List Item)
items_after items starts = items_behind (inner items (reverse starts)) (outer items (reverse starts))

-- a piece is taken, or refused for this reason, whatever pieces come behind it
abbrev pub IsTaken : List Item → List ℕ → Option Piece → Result (Unit {0}) Refusal → List Item → List ℕ → Type 0
IsTaken items starts piece (Ok done) new_items new_starts =
    IsReading new_items new_starts
    × ((rest : List (Option Piece)) → items_after items starts (piece ∷ rest) ≡ items_after new_items new_starts rest)
IsTaken items starts piece (Err refusal.IllFormed) new_items new_starts =
    (rest : List (Option Piece)) → items_after items starts (piece ∷ rest) ≡ None
IsTaken items starts piece (Err refusal.TooMany) new_items new_starts =
    IsTooMuch (λ rest. items_after items starts (piece ∷ rest))
IsTaken items starts piece (Err refusal.Memory) new_items new_starts = ⊤

-- the fault of a refusal at a place
abbrev pub fault_at : Refusal → Place → ScheduleFault
fault_at refusal.IllFormed place = fault.IllFormed place
fault_at refusal.TooMany place = fault.TooMany place
fault_at refusal.Memory place = fault.Memory

-- the place is in the text or at its end, and there is a byte at least for each item before it
abbrev pub IsWithin : List ℕ → Place → Type 0
IsWithin text place = (place.byte ≤ length text) × (1 ≤ place.item) × (place.item ≤ place.byte + 1)

-- the place is behind these words of the text: the next word begins there, or the text ends there;
-- its item is the one after those among the words
pub record IsBehind (before : List (List ℕ)) (text : List ℕ) (place : Place) : Type 0 where
  pub within : IsWithin text place
  pub words : filled (words text) ≡ before ++ filled (words (drop place.byte text))
  pub begins : BeginsWithNoGap (drop place.byte text)
  pub item : place.item ≡ count_by is_item before + 1

-- the place is the first one at fault: the words before it can be finished to a schedule, and those
-- from it on are at fault behind them
pub record IsFirst (AreAtFault : List (Option Piece) → List (Option Piece) → Type 0)
    (text : List ℕ) (place : Place) : Type 0 where
  pub before : List (List ℕ)
  pub behind : IsBehind before text place
  pub finishes : CanBeFinished (map piece_of before)
  pub fault : AreAtFault (map piece_of before) (pieces_of (drop place.byte text))

-- the text has this fault
abbrev pub IsFaultOf : List ℕ → ScheduleFault → Type 0
IsFaultOf text (fault.IllFormed place) =
    (grouped_items_of text ≡ None) × IsFirst IsIllFormedBehind text place
IsFaultOf text (fault.TooMany place) =
    BeginsWithTooMany text × IsFirst IsTooMuchBehind text place
IsFaultOf text fault.Memory = ⊤

-- the text has these items, and they are not too many
abbrev pub AreItemsOf : List ℕ → List Item → Type 0
AreItemsOf text items = (grouped_items_of text ≡ Some items) × (length items ≤ MOST_ENTRIES)
