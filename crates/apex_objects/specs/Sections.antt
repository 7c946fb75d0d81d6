-- The sections of the listing, and their order (this profile).
use Rattle.std.specs.Prelude.{ℕ, List, [], ◌∷◌, length}
use Rattle.apex_machine.specs.text.Listing.{texts_of}
use Rattle.apex_services.specs.Sections.{Listed}
use Rattle.apex_objects.specs.declared.listing.Section.{Section}
use Rattle.apex_objects.specs.declared.listing.Section.TheVariants.{Head, Cores, Processes, Semaphores, Buffers, Blackboards, EventFlags, Mutexes}
use Rattle.apex_objects.specs.Listing.{head_objects, core_listed, process_listed, semaphore_listed, buffer_listed, blackboard_listed, event_flag_listed, mutex_listed}

-- the number of things that a section lists, created or not
abbrev pub thing_count : Listed → Section → ℕ
thing_count listed Head = 1
thing_count listed Cores = listed.roster.cores
thing_count listed Processes = length listed.table.processes
thing_count listed Semaphores = length listed.table.semaphores
thing_count listed Buffers = length listed.table.buffers
thing_count listed Blackboards = length listed.table.blackboards
thing_count listed EventFlags = length listed.table.event_flags
thing_count listed Mutexes = length listed.table.mutexes

-- the objects of the thing at a place of a section
abbrev pub thing_text : Listed → Section → ℕ → List ℕ
thing_text listed Head i = head_objects listed.roster listed.entries
thing_text listed Cores i = core_listed listed.table listed.roster i
thing_text listed Processes i = process_listed listed.table listed.roster listed.objects i
thing_text listed Semaphores i = semaphore_listed listed.table listed.roster listed.objects i
thing_text listed Buffers i = buffer_listed listed.table listed.roster listed.objects i
thing_text listed Blackboards i = blackboard_listed listed.table listed.roster listed.objects i
thing_text listed EventFlags i = event_flag_listed listed.table listed.roster listed.objects i
thing_text listed Mutexes i = mutex_listed listed.table listed.roster listed.objects i

-- the objects of a section
abbrev pub section_text : Listed → Section → List ℕ
section_text listed section = texts_of (thing_text listed section) (thing_count listed section)

-- all sections, in their order
abbrev pub sections : List Section
sections =
    Head ∷ Cores ∷ Processes ∷ Semaphores ∷ Buffers ∷ Blackboards ∷ EventFlags ∷ Mutexes ∷ []
