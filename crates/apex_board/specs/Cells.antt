-- The rule of the cell in which fronts are published, and what each step on it shows.
use Rattle.std.specs.Prelude.{◌≡◌, ℕ, ◌⊎◌, List, [], ◌∷◌, ⊤}
use mathlib.Core.List.{IsPrefix}
use mathlib.Core.Option.{some}
use lib.ListN.{get_elem?}
use Rattle.apex_types.specs.declared.entries.Entry.{Entry}
use Rattle.apex_machine.specs.table.Table.{Table}
use Rattle.apex_board.specs.declared.law.View.{View}
use Rattle.apex_board.specs.declared.law.View.TheVariants.{Blank, Publishes, Reads, Spent}
use Rattle.apex_board.specs.Fronts.{Shows}

-- the knowledge of pass number `pass`, if `publisher` is the number of the publisher's pass and this is its history: the
-- publisher knows it whole, and a reader a prefix of it
abbrev pub Knows : Table → List Entry → ℕ → ℕ → View → Type 0
Knows table history publisher pass Blank = ⊥
Knows table history publisher pass (Publishes named all told) =
    (pass ≡ publisher) × (named ≡ table) × (all ≡ history) × IsPrefix told history
Knows table history publisher pass (Reads named seen) = (named ≡ table) × IsPrefix seen history
Knows table history publisher pass Spent = ⊤

-- the words are those of the front after the publisher's history
pub record IsPublished (words : List ℕ) (views : List View) : Type 0 where
  pub table : Table
  pub history : List Entry
  pub publisher : ℕ
  pub shows : Shows table history words
  pub each : (pass : ℕ) (view : View) → get_elem? views pass ≡ some view
      → Knows table history publisher pass view

-- before the cell is one of a partition, its words are 0, which are those of the front of any partition that opens
abbrev pub IsUnnamed : List ℕ → List View → Type 0
IsUnnamed words views = (words ≡ 0 ∷ 0 ∷ 0 ∷ []) × (views ≡ Blank ∷ [])

-- the rule of the cell
abbrev pub IsKept : List ℕ → List View → Type 0
IsKept words views = IsUnnamed words views ⊎ IsPublished words views

-- the history that a pass knows
abbrev pub known_in : View → List Entry
known_in Blank = []
known_in (Publishes table history told) = history
known_in (Reads table history) = history
known_in Spent = []

-- the history of which the publisher was told that a reader has seen it
abbrev pub told_in : View → List Entry
told_in Blank = []
told_in (Publishes table history told) = told
told_in (Reads table history) = []
told_in Spent = []

-- a reader with the knowledge of the publisher
abbrev pub reader_of : View → View
reader_of Blank = Spent
reader_of (Publishes table history told) = Reads table history
reader_of (Reads table history) = Spent
reader_of Spent = Spent

-- the publisher, once it is told that a reader has seen this
abbrev pub with_told : List Entry → View → View
with_told seen Blank = Blank
with_told seen (Publishes table history told) = Publishes table history seen
with_told seen (Reads table history) = Reads table history
with_told seen Spent = Spent

abbrev pub told_of : View → View → View
told_of view other = with_told (known_in other) view

-- a read: the reader has seen a history of which the one before is a prefix, and the words show the front after it
pub record HasSeen (table : Table) (before : List Entry) (words : List ℕ)
    (after : View) : Type 0 where
  pub history : List Entry
  pub view : after ≡ Reads table history
  pub later : IsPrefix before history
  pub shows : Shows table history words

abbrev pub Sees : View → List ℕ → View → Type 0
Sees Blank words after = ⊤
Sees (Publishes table history told) words after = ⊤
Sees (Reads table history) words after = HasSeen table history words after
Sees Spent words after = ⊤

-- a read by the publisher, which finds that the reader had seen a prefix
pub record HasFound (table : Table) (history told : List Entry) (words : List ℕ)
    (after : View) : Type 0 where
  pub view : after ≡ Publishes table history told
  pub saw : IsPrefix told history
  pub shows : Shows table history words

abbrev pub Finds : View → List ℕ → View → Type 0
Finds Blank words after = ⊤
Finds (Publishes table history told) words after = HasFound table history told words after
Finds (Reads table history) words after = ⊤
Finds Spent words after = ⊤

-- the publisher has this history from now on
abbrev pub Adds : List Entry → View → View → Type 0
Adds next Blank after = ⊤
Adds next (Publishes table history told) after = after ≡ Publishes table next told
Adds next (Reads table history) after = ⊤
Adds next Spent after = ⊤
