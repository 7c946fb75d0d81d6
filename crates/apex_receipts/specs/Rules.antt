-- The rule of the book, and the results of its steps.
use Rattle.std.specs.Prelude.{◌≡◌, ℕ, ◌<◌, ◌≤◌, ◌⊎◌, true, false, List, [], ◌∷◌, ◌++◌, Option, Some}
use mathlib.Core.List.{IsPrefix}
use Rattle.logbook.specs.Pages.{Book, Cell, Named, Nib, Step, View, cell, may_make}
use Rattle.apex_types.specs.declared.entries.Entry.{Entry}
use Rattle.apex_receipts.specs.declared.law.Note.{Note}
use Rattle.apex_receipts.specs.Notes.{AllUsed, IsAlone, IsFair, IsHome, said, written}

-- the facts that hold between any two steps
pub record IsKept (cells : List Cell) (log : List Note) : Type 0 where
  pub head : IsHome cells 0
  pub used : AllUsed cells (λ (k : ℕ). k) log
  pub fair : IsFair log

-- the word that each step is made on
abbrev pub head_of : Book → Named
head_of b = record { tracked = true; key = 0; book = b }

-- the cell of the pen isn't home
abbrev pub IsAway : List Cell → Nib → Type 0
IsAway cells nib = (cell cells nib.key).1 ≡ false

-- a pen was taken, whose word has still to be made
abbrev pub Takes : Step Note → View Note ℕ → ℕ → View Note ℕ → Type 0
Takes s v found w = w.1.0.right ≡ may_make

-- the log is heard as it is, while the cell of the speaker's pen is away
pub record Hears (s : Step Note) (v : View Note ℕ) (found : ℕ) (w : View Note ℕ) : Type 0 where
  pub cells : List Cell
  pub kept : IsKept cells w.0
  pub away : IsAway cells v.1.0
  pub same : w.1.0 ≡ v.1.0

-- the note was added to a log that begins with all that had been seen, while the cell of the
-- speaker's pen was away
pub record Says (s : Step Note) (v : View Note ℕ) (found : ℕ) (w : View Note ℕ) : Type 0 where
  pub cells : List Cell
  pub before : List Note
  pub kept : IsKept cells before
  pub away : IsAway cells v.1.0
  pub begins : IsPrefix v.0 before
  pub added : w.0 ≡ before ++ s.ask ∷ []

-- a speaker as contracts see it: its book, its id, and the log that it has seen
pub record Speech : Type 0 where
  pub book : Book
  pub id : ℕ
  pub log : List Note

-- the speaker has heard the log as it is, with these notes in it
pub record HasHeard (own known log : List Note) (o : ℕ) : Type 0 where
  pub alone : IsAlone o own log
  pub knew : IsPrefix known log
  pub fair : IsFair log

-- the speaker has added one note to the log as it was, with these notes in it
pub record HasSaid (own known : List Note) (n : Note) (log : List Note) : Type 0 where
  pub before : List Note
  pub heard : HasHeard own known before n.by
  pub added : log ≡ before ++ n ∷ []

-- speaker l has added a note for speaker o in this way, with this entry or with none
abbrev pub HasAdded : ℕ → ℕ → Option Entry → List Note → List Note → List Note → Type 0
HasAdded l o entry own known log =
    (key : ℕ) × HasSaid own known (record { by = l; of = o; entry = entry; key = key }) log

-- a speaker that has seen this log and knows these notes may add the note: it is for itself, or for
-- a speaker that has more notes of its own than the first one has written for it
abbrev pub MaySay : List Note → List Note → Note → Type 0
MaySay own known n = (n.of ≡ n.by) ⊎ (written n.by n.of own < said n.of known)

-- speaker l went on from its own log to this one without a note of its own, and found the notes in
-- it that speaker o had heard; and it wrote no more notes for o than o wrote itself
pub record HasMet (l o : ℕ) (own mine heard log : List Note) : Type 0 where
  pub alone : IsAlone l own log
  pub knew : IsPrefix heard log
  pub most : written l o own ≤ said o mine

-- and then wrote this entry down for o
pub record HasWritten (l o : ℕ) (own mine heard : List Note) (e : Entry)
    (log : List Note) : Type 0 where
  pub before : List Note
  pub met : HasMet l o own mine heard before
  pub note : Note
  pub by : note.by ≡ l
  pub of : note.of ≡ o
  pub entry : note.entry ≡ Some e
  pub added : log ≡ before ++ note ∷ []
