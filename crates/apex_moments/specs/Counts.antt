-- What the objects of a partition hold: a count of each object of four kinds, and the owner of each mutex.
use Rattle.std.specs.Prelude.{◌≡◌, ℕ, Bool, List, [], length, Option, is_some, if◌then◌else◌}
use Rattle.apex_machine.specs.services.BlackboardServices.{blackboard_kind}
use Rattle.apex_machine.specs.services.BufferServices.{buffer_kind}
use Rattle.apex_machine.specs.services.EventFlagServices.{event_flag_kind}
use Rattle.apex_machine.specs.services.SemaphoreServices.{SemaphoreObject, semaphore_kind}
use Rattle.apex_machine.specs.text.Listing.{object_in}
use Rattle.apex_machine.specs.Deeds.{Objects}
use Rattle.apex_machine.specs.Machine.{objects_after}
use Rattle.apex_machine.specs.processes.Owners.{owner}
use Rattle.apex_machine.specs.processes.Roster.{Roster}
use Rattle.apex_machine.specs.table.Table.{Table}
use Rattle.apex_moments.specs.Places.{of_places}
use Rattle.apex_moments.specs.Terms.{Entry}
use Rattle.apex_moments.specs.declared.kinds.Kind.{Kind}
use Rattle.apex_moments.specs.declared.kinds.Kind.TheVariants.{Semaphore, Buffer, Blackboard, EventFlag}

-- 1 for yes, 0 for no
abbrev pub one_if : Bool → ℕ
one_if holds = if holds then 1 else 0

-- the value of a semaphore, and 0 before it is created
abbrev pub created_value : SemaphoreObject → ℕ
created_value semaphore = if semaphore.created then semaphore.value else 0

-- the value of semaphore s, and 0 before it is created
abbrev pub value_of : Objects → ℕ → ℕ
value_of objects s = created_value (object_in semaphore_kind objects.semaphores s)

-- the number of messages in buffer b
abbrev pub content_of : Objects → ℕ → ℕ
content_of objects b = length (object_in buffer_kind objects.buffers b).messages

-- the number of messages that blackboard b displays: 1 or 0
abbrev pub displayed_on : Objects → ℕ → ℕ
displayed_on objects b = one_if (is_some (object_in blackboard_kind objects.blackboards b).message)

-- 1 if event flag e is up, and else 0
abbrev pub raised_of : Objects → ℕ → ℕ
raised_of objects e = one_if (object_in event_flag_kind objects.event_flags e).up

-- the count of the object of a kind at place i
abbrev pub count_of : Objects → Kind → ℕ → ℕ
count_of objects Semaphore i = value_of objects i
count_of objects Buffer i = content_of objects i
count_of objects Blackboard i = displayed_on objects i
count_of objects EventFlag i = raised_of objects i

-- the number of objects of a kind that a table has
abbrev pub object_count : Table → Kind → ℕ
object_count table Semaphore = length table.semaphores
object_count table Buffer = length table.buffers
object_count table Blackboard = length table.blackboards
object_count table EventFlag = length table.event_flags

-- the counts of all objects of a kind
abbrev pub counts_in : Table → Objects → Kind → List ℕ
counts_in table objects kind = of_places (count_of objects kind) (object_count table kind)

-- a count for each object of the four kinds, and the owner of each mutex
pub record Counts : Type 0 where
  pub values : List ℕ
  pub contents : List ℕ
  pub displays : List ℕ
  pub flags : List ℕ
  pub owners : List (Option ℕ)

-- the counts of no object
abbrev pub no_counts : Counts
no_counts = record { values = []; contents = []; displays = []; flags = []; owners = [] }

-- the owner of each mutex of a table
abbrev pub owners_in : Table → Roster → List (Option ℕ)
owners_in table roster = of_places (owner roster) (length table.mutexes)

-- the counts of the objects of a table, and the owners of its mutexes
unfoldable pub counts_of : Table → Roster → Objects → Counts
counts_of table roster objects = record {
  values = counts_in table objects Semaphore;
  contents = counts_in table objects Buffer;
  displays = counts_in table objects Blackboard;
  flags = counts_in table objects EventFlag;
  owners = owners_in table roster;
}

-- the counts after these entries, which led to this roster
abbrev pub counts_after : Table → Roster → List Entry → Counts
counts_after table roster done = counts_of table roster (objects_after table done)

-- there is a count for each object of a table, and an owner or none for each mutex
pub record HasCounts (counts : Counts) (table : Table) : Type 0 where
  pub values : length counts.values ≡ object_count table Semaphore
  pub contents : length counts.contents ≡ object_count table Buffer
  pub displays : length counts.displays ≡ object_count table Blackboard
  pub flags : length counts.flags ≡ object_count table EventFlag
  pub owners : length counts.owners ≡ length table.mutexes
