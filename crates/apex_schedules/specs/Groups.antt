-- The text of a schedule with groups: its words, the items that these write out, and the place of a
-- fault.
use Rattle.std.specs.Prelude.{◌+◌, count_by, fold, ◌≡◌, All, ℕ, ◌-◌, ◌<◌, ◌≤◌, Bool, false, true, not, ⊤, List, [], ◌∷◌, ◌++◌, Option, Some, None, IfSome, ◌==◌, ◌||◌, if◌then◌else◌, length, map, option_map, replicate}
use Rattle.std.specs.List.{flat_map, onto_first}
use Rattle.apex_types.specs.declared.limits.TheConstants.{MOST_ENTRIES}
use Rattle.apex_schedules.specs.declared.schedule.Item.{Item}
use Rattle.apex_schedules.specs.declared.pieces.Piece.{Piece}
use Rattle.apex_schedules.specs.declared.pieces.Piece.TheVariants as piece
use Rattle.apex_schedules.specs.Schedule.{item_of, positive_of}

-- a space (32) or a line feed (10)
abbrev pub is_gap : ℕ → Bool
is_gap byte = byte == 32 || byte == 10

-- a byte that ends a word: a space, a line feed or a bracket
abbrev pub is_boundary : ℕ → Bool
is_boundary byte = is_gap byte || (byte == 40 || byte == 41)

-- the words of a text: a space or a line feed ends one, `(` (40) is one, and `)` (41) begins one; a
-- word may be empty
abbrev pub words : List ℕ → List (List ℕ)
words [] = [] ∷ []
words (byte ∷ rest) =
    if is_gap byte then [] ∷ words rest
    else if byte == 40 then [] ∷ (40 ∷ []) ∷ words rest
    else if byte == 41 then [] ∷ onto_first 41 (words rest)
    else onto_first byte (words rest)

-- the words that are not empty
abbrev pub filled : List (List ℕ) → List (List ℕ)
filled [] = []
filled ([] ∷ more) = filled more
filled ((byte ∷ rest) ∷ more) = (byte ∷ rest) ∷ filled more

-- the number of times of a group, behind its `)`: `*k`
abbrev pub times_behind : List ℕ → Option ℕ
times_behind [] = None
times_behind (star ∷ times) = if star == 42 then positive_of times else None

-- a word: `(` opens a group, `)*k` closes one that comes k times, and any other is an item
abbrev pub piece_of : List ℕ → Option Piece
piece_of [] = None
piece_of (first ∷ rest) =
    if first == 40 then Some piece.Open
    else if first == 41 then option_map piece.Close (times_behind rest)
    else option_map piece.Single (item_of (first ∷ rest))

-- a word is an item: it begins with no bracket
abbrev pub is_item : List ℕ → Bool
is_item [] = true
is_item (first ∷ rest) = not (first == 40 || first == 41)

-- items that come n times; n is 1 at least
abbrev pub repeated : ℕ → List Item → List Item
repeated times items = items ++ flat_map (λ copy. copy) (replicate (times - 1) items)

-- the items that pieces write out, behind the items that were written out before, in the innermost
-- open group and round each open group, innermost first; none if a piece or a bracket is ill-formed
abbrev pub items_behind : List Item → List (List Item) → List (Option Piece) → Option (List Item)
items_behind items [] [] = Some items
items_behind items (outer ∷ more) [] = None
items_behind items outers (None ∷ rest) = None
items_behind items outers (Some (piece.Single item) ∷ rest) =
    items_behind (items ++ item ∷ []) outers rest
items_behind items outers (Some piece.Open ∷ rest) = items_behind [] (items ∷ outers) rest
items_behind items [] (Some (piece.Close times) ∷ rest) = None
items_behind items (outer ∷ more) (Some (piece.Close times) ∷ rest) =
    items_behind (outer ++ repeated times items) more rest

-- the pieces of a text
abbrev pub pieces_of : List ℕ → List (Option Piece)
pieces_of text = map piece_of (filled (words text))

-- the items of a text with groups, each group written out as often as it comes
abbrev pub grouped_items_of : List ℕ → Option (List Item)
grouped_items_of text = items_behind [] [] (pieces_of text)

-- the items are too many, if there are any
abbrev pub AreTooMany : Option (List Item) → Type 0
AreTooMany items = IfSome items (λ xs. MOST_ENTRIES < length xs)

-- whatever pieces come behind, the items that are written out with them are too many, if there are
-- any; and there are some with some such pieces
pub record IsTooMuch (items_with : List (Option Piece) → Option (List Item)) : Type 0 where
  pub many : (rest : List (Option Piece)) → AreTooMany (items_with rest)
  pub some : (rest : List (Option Piece)) × (items : List Item) × (items_with rest ≡ Some items)

-- the first pieces of the text write out too many items, whatever pieces come behind them
pub record BeginsWithTooMany (text : List ℕ) : Type 0 where
  pub first : List (Option Piece)
  pub rest : List (Option Piece)
  pub parts : pieces_of text ≡ first ++ rest
  pub too_much : IsTooMuch (λ others. items_behind [] [] (first ++ others))

-- with some pieces behind them the pieces write out items that are not too many
pub record CanBeFinished (pieces : List (Option Piece)) : Type 0 where
  pub rest : List (Option Piece)
  pub items : List Item
  pub whole : items_behind [] [] (pieces ++ rest) ≡ Some items
  pub few : length items ≤ MOST_ENTRIES

-- behind the pieces no piece comes, though a group is open; or the one that comes next is ill-formed or
-- closes no group, whatever pieces come behind it
abbrev pub IsIllFormedBehind : List (Option Piece) → List (Option Piece) → Type 0
IsIllFormedBehind pieces [] = items_behind [] [] pieces ≡ None
IsIllFormedBehind pieces (next ∷ rest) =
    (others : List (Option Piece)) → items_behind [] [] (pieces ++ next ∷ others) ≡ None

-- behind the pieces one comes with which the items are too many, whatever pieces come behind it
abbrev pub IsTooMuchBehind : List (Option Piece) → List (Option Piece) → Type 0
IsTooMuchBehind pieces [] = ⊥
IsTooMuchBehind pieces (next ∷ rest) =
    IsTooMuch (λ others. items_behind [] [] (pieces ++ next ∷ others))

-- a text does not begin with a space or a line feed
abbrev pub BeginsWithNoGap : List ℕ → Type 0
BeginsWithNoGap [] = ⊤
BeginsWithNoGap (byte ∷ rest) = is_gap byte ≡ false

-- in the text spaces alone end words: it has no line feed and no bracket
abbrev pub HasNoGroups : List ℕ → Type 0
HasNoGroups text = All (λ byte. is_boundary byte ≡ (byte == 32)) text

-- the line behind bytes, from 1
abbrev pub line_behind : List ℕ → ℕ
line_behind bytes = count_by (λ byte. byte == 10) bytes + 1

-- the column behind bytes: 1 at the front and behind a line feed, and one more behind each other byte
abbrev pub column_behind : List ℕ → ℕ
column_behind bytes = fold (λ column byte. if byte == 10 then 1 else column + 1) 1 bytes
