-- The situation of words, and what a pace counts there.
use Rattle.std.specs.Prelude.{◌≡◌, ℕ, ◌+◌, ◌*◌, ◌<◌, ◌≤◌, ◌^◌, ◌==◌, zero, suc, List, [], ◌∷◌, ◌++◌, length, nat_lt, Option, None, Some, slice_index, take, drop, pos, if◌then◌else◌}
use Rattle.apex_machine.specs.Deeds.{Objects}
use Rattle.apex_machine.specs.Machine.{objects_after}
use Rattle.apex_machine.specs.Situations.{Situation}
use Rattle.apex_machine.specs.processes.Roster.{Roster, disciplines_of, rules_of}
use Rattle.apex_machine.specs.services.ProcessServices.{ProcessObject}
use Rattle.apex_machine.specs.table.Table.{Table}
use Rattle.apex_pace.specs.Pace.{Paced}
use Rattle.apex_recall.specs.Values.{mode_in}
use Rattle.apex_recall.specs.Objects.{blackboard_from, buffer_from, event_flag_from, mutex_from, process_from, semaphore_from}
use Rattle.apex_recall.specs.Records.{IsCoreWord, is_created_in, record_from}
use Rattle.apex_forms.specs.Stored.{counted_count, word_count}
use Rattle.apex_recall.specs.Terms.{OpenWork, Record}
use Rattle.apex_forms.specs.declared.objects.TheConstants.{BLACKBOARD_WORDS, BUFFER_WORDS, EVENT_FLAG_WORDS, MUTEX_WORDS, SEMAPHORE_WORDS}
use Rattle.apex_forms.specs.declared.records.TheConstants.{RECORD_WORDS}
use Rattle.apex_forms.specs.declared.stored.TheConstants.{CORE_WORDS, HEAD_WORDS}
use Rattle.apex_types.specs.Places.{map_places}

-- the words of the place among parts of this length, the first of which is at `from`
abbrev pub part : List ℕ → ℕ → ℕ → ℕ → List ℕ
part words from place many = take many (drop (from + place * many) words)

-- the words of a core
abbrev pub core_part : List ℕ → ℕ → List ℕ
core_part words core = part words HEAD_WORDS core CORE_WORDS

-- the open work of these words of a core
abbrev pub open_in : List ℕ → Option OpenWork
open_in words =
    if slice_index words 0 == 0 then None
    else Some (record {
      work = record { process = slice_index words 1; amount = slice_index words 2 };
      unbroken = slice_index words 0 == 2;
    })

-- the open work of each of the first `cores` cores, and none of the others
abbrev pub works_in : ℕ → List ℕ → ℕ → Option OpenWork
works_in cores words core =
    if nat_lt core cores then open_in (core_part words core) else None

-- the turns of each core, and the ticks that it has worked for
abbrev pub turns_in : ℕ → List ℕ → ℕ → ℕ
turns_in cores words core =
    if nat_lt core cores then slice_index (core_part words core) 3 else 0

abbrev pub worked_in : ℕ → List ℕ → ℕ → ℕ
worked_in cores words core =
    if nat_lt core cores then slice_index (core_part words core) 4 else 0

-- the place of the first process's words
abbrev pub records_from : Table → ℕ
records_from table = HEAD_WORDS + table.cores * CORE_WORDS

-- the records of these words, with the attributes that the table gives
abbrev pub records_in : Table → List ℕ → List Record
records_in table words =
    map_places (λ p entry. record_from entry.attributes
    (part words (records_from table) p RECORD_WORDS)) 0 table.processes

-- the first n processes, created or not
abbrev pub processes_in : ℕ → List ℕ → ℕ → List ProcessObject
processes_in zero words from = []
processes_in (suc n) words from =
    processes_in n words from
    ++ process_from (is_created_in (part words from n RECORD_WORDS)) ∷ []

-- the objects, with the semaphores, buffers and blackboards of these words
abbrev pub counted_in : Objects → List ℕ → ℕ → Objects
counted_in objects words from =
    let buffers = from + length objects.semaphores * SEMAPHORE_WORDS in
    let blackboards = buffers + length objects.buffers * BUFFER_WORDS in
    record objects {
      semaphores = map_places (λ k s. semaphore_from s (part words from k SEMAPHORE_WORDS)) 0
          objects.semaphores;
      buffers = map_places (λ k b. buffer_from b (part words buffers k BUFFER_WORDS)) 0
          objects.buffers;
      blackboards = map_places (λ k b. blackboard_from b
          (part words blackboards k BLACKBOARD_WORDS)) 0 objects.blackboards;
    }

-- the objects, with the event flags and mutexes of these words
abbrev pub locks_in : Objects → List ℕ → ℕ → Objects
locks_in objects words from =
    let mutexes = from + length objects.event_flags * EVENT_FLAG_WORDS in
    record objects {
      event_flags = map_places (λ k e. event_flag_from (part words from k EVENT_FLAG_WORDS)) 0
          objects.event_flags;
      mutexes = map_places (λ k m. mutex_from (part words mutexes k MUTEX_WORDS)) 0
          objects.mutexes;
    }

-- the objects, with the values of these words, in which those of the first process are at `from`
abbrev pub objects_from : Objects → List ℕ → ℕ → Objects
objects_from objects words from =
    let behind = from + length objects.processes * RECORD_WORDS in
    locks_in (counted_in
    (record objects { processes = processes_in (length objects.processes) words from })
    words behind) words (behind + counted_count objects)

-- the objects, with the values of the words of a situation of the table
abbrev pub objects_in : Table → Objects → List ℕ → Objects
objects_in table objects words = objects_from objects words (records_from table)

-- the roster of these words
abbrev pub roster_from : Table → List ℕ → Roster
roster_from table words = record {
  cores = table.cores;
  mode = mode_in (slice_index words 0);
  now = slice_index words 1;
  records = records_in table words;
  young = pos (1 + (length table.processes + 1) * length table.processes);
  old = pos 0;
  disciplines = disciplines_of table;
  rules = rules_of table;
}

-- the paced situation of these words
abbrev pub paced_from : Table → List ℕ → Paced
paced_from table words = record {
  situation = record {
    roster = roster_from table words;
    objects = objects_in table (objects_after table []) words;
    works = works_in table.cores words;
    made = slice_index words 2;
  };
  turns = turns_in table.cores words;
  worked = worked_in table.cores words;
}

-- the words of a core are those of open work or of none
pub record IsWorkWords (words : List ℕ) : Type 0 where
  pub process : slice_index words 1 < 256
  pub amount : (slice_index words 0 ≡ 0 → ⊥) → 1 ≤ slice_index words 2
  pub few : slice_index words 2 < 2 ^ 32

-- so it is with the words of each of the cores
pub record AreCoreWords (cores : ℕ) (words : List ℕ) : Type 0 where
  pub many : HEAD_WORDS + cores * CORE_WORDS ≤ length words
  pub each : (core : ℕ) → core < cores → IsWorkWords (core_part words core)

-- the words of each process name a core, and its stamp is below 2^63
pub record AreRecordWords (table : Table) (words : List ℕ) : Type 0 where
  pub many : records_from table + length table.processes * RECORD_WORDS ≤ length words
  pub cores : (p : ℕ) → p < length table.processes
      → IsCoreWord (slice_index (part words (records_from table) p RECORD_WORDS) 0)
  pub stamps : (p : ℕ) → p < length table.processes
      → slice_index (part words (records_from table) p RECORD_WORDS) 3 < 2 ^ 63

-- the words are those of a situation of the table
pub record IsStored (table : Table) (words : List ℕ) : Type 0 where
  pub many : length words ≡ word_count table
  pub cores : AreCoreWords table.cores words
  pub records : AreRecordWords table words

-- the situation has the fixed parts that the table gives, whatever its values are
pub record IsOfTable (table : Table) (s : Situation) : Type 0 where
  pub cores : s.roster.cores ≡ table.cores
  pub records : length s.roster.records ≡ length table.processes
  pub disciplines : s.roster.disciplines ≡ disciplines_of table
  pub rules : s.roster.rules ≡ rules_of table
  pub objects : (words : List ℕ)
      → objects_in table s.objects words ≡ objects_in table (objects_after table []) words
