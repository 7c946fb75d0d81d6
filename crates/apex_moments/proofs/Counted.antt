-- There is a count for each object.
use Rattle.std.proofs.Common.{◌≡◌, length}
use Rattle.apex_machine.specs.Deeds.{Objects}
use Rattle.apex_machine.specs.processes.Owners.{owner}
use Rattle.apex_machine.specs.processes.Roster.{Roster}
use Rattle.apex_machine.specs.table.Table.{Table}
use Rattle.apex_moments.specs.Counts.{HasCounts, count_of, counts_in, counts_of, object_count}
use Rattle.apex_moments.specs.declared.kinds.Kind.{Kind}
use Rattle.apex_moments.specs.declared.kinds.Kind.TheVariants.{Semaphore, Buffer, Blackboard, EventFlag}
use Rattle.apex_moments.proofs.Places.{length_of}

-- there are as many counts of a kind as objects
pub many_counts : (table : Table) (objects : Objects) (kind : Kind) → length (counts_in table objects kind) ≡ object_count table kind
many_counts table objects kind = length_of (count_of objects kind) (object_count table kind)

-- a table's objects have a count each, and its mutexes an owner or none
pub counted_all : (table : Table) (roster : Roster) (objects : Objects) → HasCounts (counts_of table roster objects) table
unfolding counts_of
counted_all table roster objects = record {
  values = many_counts table objects Semaphore;
  contents = many_counts table objects Buffer;
  displays = many_counts table objects Blackboard;
  flags = many_counts table objects EventFlag;
  owners = length_of (owner roster) (length table.mutexes);
}
