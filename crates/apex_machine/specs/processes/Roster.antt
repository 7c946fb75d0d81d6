-- The roster, which is the processes as a contract sees them: mode, time, one record each, and the
-- two counters of stamps.
use Rattle.std.specs.Prelude.{ℕ, ◌+◌, false, List, [], length, map, slice_index_or, slice_set, ℤ, pos, None}
use Rattle.apex_machine.specs.Terms.{Discipline, Mode, Record}
use Rattle.apex_types.specs.declared.modes.Mode.TheVariants.{ColdStart}
use Rattle.apex_types.specs.Places.{map_places}
use Rattle.apex_machine.specs.table.Profiles.{owned_of}
use Rattle.apex_machine.specs.table.Table.{Table, ProcessConfig, SemaphoreConfig, BufferConfig, MutexConfig, no_attributes}

-- the disciplines of the queues of semaphores, of buffers and of mutexes
pub record Disciplines : Type 0 where
  pub semaphores : List Discipline
  pub buffers : List Discipline
  pub mutexes : List Discipline

-- the rules of the mutexes: their ceilings, and the most that a process may own at once
pub record MutexRules : Type 0 where
  pub ceilings : List ℕ
  pub most_owned : ℕ

-- the processes of a partition at one moment, and what never changes: the number of cores, the
-- disciplines of its queues, and the rules of its mutexes
pub record Roster : Type 0 where
  pub cores : ℕ
  pub mode : Mode
  pub now : ℕ
  pub records : List Record
  pub young : ℤ
  pub old : ℤ
  pub disciplines : Disciplines
  pub rules : MutexRules

-- a record that no process has, for a place past the end
abbrev pub nobody : Record
nobody = record {
  attributes = no_attributes;
  core = 0;
  base = 0;
  started = false;
  suspended = None;
  wait = None;
  since = pos 0;
  due = None;
  deadline = None;
  release = 0;
  owned = [];
  step = 0;
  inbox = None;
}

-- the record of process p
abbrev pub record_at : Roster → ℕ → Record
record_at roster p = slice_index_or roster.records p nobody

-- process p has this record from now on, and the others keep theirs
abbrev pub with_record : Roster → ℕ → Record → Roster
with_record roster p r = record roster { records = slice_set roster.records p r }

-- the record with which the process of a table's entry opens, dormant on core 0 (this profile)
abbrev pub opening_record : ℕ → ProcessConfig → Record
opening_record p entry = record {
  attributes = entry.attributes;
  core = 0;
  base = entry.attributes.priority;
  started = false;
  suspended = None;
  wait = None;
  since = pos (p + 1);
  due = None;
  deadline = None;
  release = 0;
  owned = [];
  step = 0;
  inbox = None;
}

-- the disciplines that the table gives
abbrev pub disciplines_of : Table → Disciplines
disciplines_of table = record {
  semaphores = map (λ (s : SemaphoreConfig). s.discipline) table.semaphores;
  buffers = map (λ (b : BufferConfig). b.discipline) table.buffers;
  mutexes = map (λ (m : MutexConfig). m.discipline) table.mutexes;
}

-- the ceilings that the table gives
abbrev pub ceilings_of : Table → List ℕ
ceilings_of table = map (λ (m : MutexConfig). m.ceiling) table.mutexes

-- the rules that the table gives
abbrev pub rules_of : Table → MutexRules
rules_of table = record { ceilings = ceilings_of table; most_owned = owned_of table.profile }

-- the roster before any event
abbrev pub opening_roster : Table → Roster
opening_roster table = record {
  cores = table.cores;
  mode = ColdStart;
  now = 0;
  records = map_places opening_record 0 table.processes;
  young = pos (length table.processes + 1);
  old = pos 0;
  disciplines = disciplines_of table;
  rules = rules_of table;
}
