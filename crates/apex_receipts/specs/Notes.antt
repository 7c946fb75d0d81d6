-- The notes of one book: the speaker of each note, and the pen that each speaker has to use next.
use Rattle.std.specs.Prelude.{◌≡◌, ℕ, ◌≤◌, ◌<◌, Bool, true, List, [], ◌∷◌, ◌++◌, length, Option, None, ◌==◌, ◌&&◌, if◌then◌else◌, count_by, is_none}
use Rattle.std.specs.List.{filter_map}
use Rattle.logbook.specs.Pages.{Cell, cell}
use Rattle.apex_types.specs.declared.entries.Entry.{Entry}
use Rattle.apex_receipts.specs.declared.law.Note.{Note}

-- the note is of speaker o
abbrev pub is_by : ℕ → Note → Bool
is_by o n = n.by == o

-- the number of notes that speaker o has written
abbrev pub said : ℕ → List Note → ℕ
said o log = count_by (is_by o) log

-- speaker l wrote this note for speaker o
abbrev pub is_for : ℕ → ℕ → Note → Bool
is_for l o n = n.by == l && n.of == o

-- the number of notes that speaker l has written for speaker o
abbrev pub written : ℕ → ℕ → List Note → ℕ
written l o log = count_by (is_for l o) log

-- the entry that speaker l wrote down in a note
abbrev pub entry_by : ℕ → Note → Option Entry
entry_by l n = if n.by == l then n.entry else None

-- the entries that speaker l wrote down
abbrev pub entries_of : ℕ → List Note → List Entry
entries_of l log = filter_map (entry_by l) log

-- a note of speaker l without an entry, which ends its history
abbrev pub is_end : ℕ → Note → Bool
is_end l n = n.by == l && is_none n.entry

-- the number of such notes
abbrev pub ends : ℕ → List Note → ℕ
ends l log = count_by (is_end l) log

-- each speaker's next pen, by its key, after one note more: a note names the next pen of its writer
abbrev pub next_keys : (ℕ → ℕ) → Note → ℕ → ℕ
next_keys keys n o = if n.by == o then n.key else keys o

-- and after these notes
abbrev pub keys_after : (ℕ → ℕ) → List Note → ℕ → ℕ
keys_after keys [] = keys
keys_after keys (n ∷ notes) = keys_after (next_keys keys n) notes

-- the next pen of speaker o, which is named by the key of its first one
abbrev pub key_of : ℕ → List Note → ℕ
key_of o log = keys_after (λ (k : ℕ). k) log o

-- the cell of this key is home
abbrev pub IsHome : List Cell → ℕ → Type 0
IsHome cells k = (k < length cells) × ((cell cells k).1 ≡ true)

-- each note was written with the pen that was its speaker's next one, whose cell it brought home
abbrev pub AllUsed : List Cell → (ℕ → ℕ) → List Note → Type 0
AllUsed cells keys [] = Unit {0}
AllUsed cells keys (n ∷ notes) = IsHome cells (keys n.by) × AllUsed cells (next_keys keys n) notes

-- no speaker has written more notes for a speaker than that one has written itself
abbrev pub IsFair : List Note → Type 0
IsFair log = (l o : ℕ) → written l o log ≤ said o log

-- the log goes on behind the part that speaker o had seen, without a note of o
pub record IsAlone (o : ℕ) (own log : List Note) : Type 0 where
  pub rest : List Note
  pub parts : own ++ rest ≡ log
  pub silent : said o rest ≡ 0
