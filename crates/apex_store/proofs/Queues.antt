-- A record waits in one queue at the most, and a queue has no more waiters than there are
-- processes.
use Rattle.std.proofs.Common.{◌≤◌, Bool, List, count_by, length}
use Rattle.std.proofs.lemmas.List.Sums.{count_by-le-length}
use Rattle.apex_store.specs.Terms.{Record}
use Rattle.apex_machine.proofs.Starts.{stands_in, waits_there}
use Rattle.apex_store.specs.Laws.{WaitsInOneQueue}

pub one_queue : (r : Record) → WaitsInOneQueue r
one_queue r = record { own = λ queue e. waits_there queue r e; only = λ queue e. stands_in queue r e }

pub few_wait : (waits : Record → Bool) (rs : List Record) → count_by waits rs ≤ length rs
few_wait = count_by-le-length
