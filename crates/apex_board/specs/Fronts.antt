-- The front of a partition, and the words in which it is published.
use Rattle.std.specs.Prelude.{◌≡◌, ℕ, ◌+◌, ◌<◌, ◌≤◌, ◌^◌, List, [], ◌∷◌, length, map, slice_index_or, All, Option, None, Some, IfSome}
use Rattle.std.specs.Int.{w64, from_le_bytes}
use Rattle.std.specs.List.{range_with_len}
use Rattle.apex_types.specs.declared.entries.Entry.{Entry}
use Rattle.apex_types.specs.declared.entries.Event.{Event}
use Rattle.apex_types.specs.declared.limits.TheConstants.{MOST_CORES}
use Rattle.apex_machine.specs.Machine.{Machine, opening, run}
use Rattle.apex_machine.specs.processes.Running.{chosen}
use Rattle.apex_machine.specs.table.Table.{Table}

-- what a front shows of a state: the number of entries, the time, and the chosen process of each core
pub record Front : Type 0 where
  pub entries : ℕ
  pub now : ℕ
  pub chosen : List (Option ℕ)

-- front
abbrev pub front_of : Table → Machine → Front
front_of table machine = record {
  entries = length machine.history;
  now = machine.roster.now;
  chosen = map (chosen machine.roster) (range_with_len 0 table.cores);
}

-- the front is that of the last state of a run of the table, for some list of events, and this is its history
pub record IsFrontAfter (table : Table) (history : List Entry) (front : Front) : Type 0 where
  pub events : List Event
  pub told : (run table (opening table) events).history ≡ history
  pub shown : front ≡ front_of table (run table (opening table) events)

-- the byte of a process: its id as users see it, or 0 for none
abbrev pub byte_of : Option ℕ → ℕ
byte_of None = 0
byte_of (Some p) = p + 1

-- the byte of the process that a core runs; a core that the partition lacks runs none
abbrev pub core_byte : Front → ℕ → ℕ
core_byte front core = byte_of (slice_index_or front.chosen core None)

-- the bytes of all cores that a partition may have, from core 0 on
abbrev pub core_bytes : Front → List ℕ
core_bytes front = map (core_byte front) (range_with_len 0 MOST_CORES)

-- the three words of a front: the entries, the time, and the bytes of the cores, that of core 0 the lowest
abbrev pub words_of : Front → List ℕ
words_of front = front.entries ∷ front.now ∷ from_le_bytes w64 (core_bytes front) ∷ []

-- a byte holds the id of process p
abbrev pub IsSmallId : ℕ → Type 0
IsSmallId p = p < 255

-- the front is small enough for its words
pub record FitsWords (front : Front) : Type 0 where
  pub entries : front.entries < 2 ^ 32
  pub cores : length front.chosen ≤ MOST_CORES
  pub ids : All (λ (running : Option ℕ). IfSome running IsSmallId) front.chosen

-- the words are those of the front after this history of a run of the table
pub record Shows (table : Table) (history : List Entry) (words : List ℕ) : Type 0 where
  pub front : Front
  pub after : IsFrontAfter table history front
  pub written : words ≡ words_of front
  pub fits : FitsWords front
