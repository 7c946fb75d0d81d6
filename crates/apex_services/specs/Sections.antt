-- The sections of the status listing, and their order (this profile).
use Rattle.std.specs.Prelude.{◌≡◌, ◌≤◌, ℕ, List, [], ◌∷◌, length, Option, None, Some}
use Rattle.apex_machine.specs.declared.records.Queue.TheVariants as queues
use Rattle.apex_types.specs.declared.limits.TheConstants.{MOST_CORES}
use Rattle.apex_machine.specs.text.Listing.{texts_of, waiters, core_listing, process_listing, semaphore_listing, buffer_listing, blackboard_listing, event_flag_listing, mutex_listing}
use Rattle.apex_machine.specs.Deeds.{Objects}
use Rattle.apex_machine.specs.processes.Roster.{Roster}
use Rattle.apex_machine.specs.text.Status.{time_line, mode_line, history_line}
use Rattle.apex_machine.specs.table.Table.{Table, IsLawful}
use Rattle.apex_history.specs.declared.StatusRow.{StatusRow}
use Rattle.apex_history.specs.StatusRows.{row_text, IsPrintableRow}
use Rattle.apex_services.specs.declared.listing.Section.{Section}
use Rattle.apex_services.specs.declared.listing.Section.TheVariants.{Time, Mode, History, Cores, Processes, Semaphores, Buffers, Blackboards, EventFlags, Mutexes}
use Rattle.apex_laws.specs.Premises.{AreOf}

-- all that is listed: a table, its processes and objects, and the number of entries of the history
pub record Listed : Type 0 where
  pub table : Table
  pub roster : Roster
  pub objects : Objects
  pub entries : ℕ

-- the table is lawful, there are no more cores than a partition has, and there are a record and an
-- object for each entry of the table
pub record IsListable (listed : Listed) : Type 0 where
  pub lawful : IsLawful listed.table
  pub cores : listed.roster.cores ≤ MOST_CORES
  pub records : length listed.roster.records ≡ length listed.table.processes
  pub objects : AreOf listed.table listed.objects

-- the number of things that a section lists, created or not
abbrev pub thing_count : Listed → Section → ℕ
thing_count listed Time = 1
thing_count listed Mode = 1
thing_count listed History = 1
thing_count listed Cores = listed.roster.cores
thing_count listed Processes = length listed.table.processes
thing_count listed Semaphores = length listed.table.semaphores
thing_count listed Buffers = length listed.table.buffers
thing_count listed Blackboards = length listed.table.blackboards
thing_count listed EventFlags = length listed.table.event_flags
thing_count listed Mutexes = length listed.table.mutexes

-- the text of the thing at a place of a section
abbrev pub thing_text : Listed → Section → ℕ → List ℕ
thing_text listed Time i = time_line listed.roster.now
thing_text listed Mode i = mode_line listed.roster.mode
thing_text listed History i = history_line listed.entries
thing_text listed Cores i = core_listing listed.roster i
thing_text listed Processes i = process_listing listed.table listed.roster listed.objects i
thing_text listed Semaphores i = semaphore_listing listed.table listed.roster listed.objects i
thing_text listed Buffers i = buffer_listing listed.table listed.roster listed.objects i
thing_text listed Blackboards i = blackboard_listing listed.table listed.roster listed.objects i
thing_text listed EventFlags i = event_flag_listing listed.table listed.roster listed.objects i
thing_text listed Mutexes i = mutex_listing listed.table listed.roster listed.objects i

-- the waiters for the thing at a place of a section
abbrev pub waiting_at : Listed → Section → ℕ → List ℕ
waiting_at listed Semaphores i = waiters listed.roster (queues.Semaphore i)
waiting_at listed Buffers i = waiters listed.roster (queues.Buffer i)
waiting_at listed Blackboards i = waiters listed.roster (queues.Blackboard i)
waiting_at listed EventFlags i = waiters listed.roster (queues.EventFlag i)
waiting_at listed Mutexes i = waiters listed.roster (queues.Mutex i)
waiting_at listed _ i = []

-- the text of a section
abbrev pub section_text : Listed → Section → List ℕ
section_text listed section = texts_of (thing_text listed section) (thing_count listed section)

-- all sections, in their order
abbrev pub sections : List Section
sections =
    Time ∷ Mode ∷ History ∷ Cores ∷ Processes ∷ Semaphores ∷ Buffers ∷ Blackboards ∷ EventFlags
    ∷ Mutexes ∷ []

-- the row has this text and can be printed; without a row there is no text
abbrev pub Tells : Table → Option StatusRow → List ℕ → Type 0
Tells table None text = text ≡ []
Tells table (Some row) text = IsPrintableRow table row × (text ≡ row_text table row)
