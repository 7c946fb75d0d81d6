-- An entry adds at most one to each count of an object, and one for each notice.
use Rattle.std.proofs.Common.{ℕ, ◌+◌, ◌<◌, ◌≤◌, Bool, true, false, Option, None, Some, List, [], ◌∷◌, length, map, if◌then◌else◌, option_map, ◌-◌, arith}
use Rattle.std.specs.List.{AllByRecursion}
use Rattle.std.proofs.lemmas.List.Sums.{count_by-le-length}
use Rattle.apex_types.specs.declared.limits.TheConstants.{MOST_ENTRIES, MOST_NOTICES, MOST_SPAN}
use Rattle.apex_machine.specs.table.Table.{Table}
use Rattle.apex_report.specs.Concerned.{IsSettled}
use Rattle.apex_report.specs.Cores.{core_figures, ticks_in, units}
use Rattle.apex_report.specs.Objects.{is_late, object_figures}
use Rattle.apex_report.specs.ObjectSteps.{gives_now, gives_then, object_after, takes_now, takes_then, IsObjectUpTo, IsOwnerUpTo}
use Rattle.apex_report.specs.Ownerships.{depth_after, gives_up, is_acquired, is_released, next_owner, owner_after, owner_from}
use Rattle.apex_report.specs.Processes.{process_figures}
use Rattle.apex_report.specs.ReportSteps.{AreCounted}
use Rattle.apex_report.specs.Services.{service_figures}
use Rattle.apex_report.specs.Steps.{core_after, process_after, service_after, IsCoreUpTo, IsProcessUpTo, IsServiceUpTo}
use Rattle.apex_report.specs.Terms.{CoreFigures, Entry, ObjectFigures, Owner, ProcessFigures, Queue, Service, ServiceFigures, Waking}
use Rattle.apex_report.proofs.Bounds.{all_mapped, core_up_to, cores_zero, one_at_most, process_up_to, processes_zero, service_up_to, services_zero}
use Rattle.apex_report.proofs.Settled.{settled_more}

new_owner_up_to : (n : ℕ) (e : Entry) (p : Option ℕ) → IsOwnerUpTo (n + 1) (option_map (owner_from e) p)
new_owner_up_to n e None = tt
new_owner_up_to n e (Some p) = omega arith

depth_up_to : (queue : Queue) (e : Entry) (n depth : ℕ) → depth ≤ n → depth_after queue e depth ≤ n + 1
depth_up_to queue e n depth le = by_test (is_acquired queue e) (is_released queue e) where
  by_test : (a r : Bool) → (if a then depth + 1 else if r then depth - 1 else depth) ≤ n + 1
  by_test true r = omega (arith, le)
  by_test false true = omega (arith, le)
  by_test false false = omega (arith, le)

owner_up_to : (queue : Queue) (n : ℕ) (e : Entry) (woken : List Waking) (owner : Option Owner) → IsOwnerUpTo n owner
    → IsOwnerUpTo (n + 1) (owner_after queue e woken owner)
owner_up_to queue n e woken None up = new_owner_up_to n e (next_owner queue e woken)
owner_up_to queue n e woken (Some owner) up = by_test (gives_up queue e owner) where
  by_test : (b : Bool) → IsOwnerUpTo (n + 1) (if b then option_map (owner_from e) (next_owner queue e woken)
      else Some (record owner { depth = depth_after queue e owner.depth }))
  by_test true = new_owner_up_to n e (next_owner queue e woken)
  by_test false = depth_up_to queue e n owner.depth up

object_up_to : (n : ℕ) (e : Entry) (woken : List Waking) (processes : List ProcessFigures) → length woken ≤ MOST_NOTICES
    → (f : ObjectFigures) → IsObjectUpTo n f → IsObjectUpTo (n + 1) (object_after e woken processes f)
object_up_to n e woken processes few f up = record {
  given = omega (arith, up.given, few, one_at_most (gives_now f.object e), count_by-le-length (gives_then f.object) woken);
  taken = omega (arith, up.taken, few, one_at_most (takes_now f.object e), count_by-le-length (takes_then f.object) woken);
  timeouts = omega (arith, up.timeouts, few, count_by-le-length (is_late f.object) woken);
  owner = owner_up_to f.object n e woken f.owner up.owner;
}

-- the counts after one entry more
pub counted_more : (n : ℕ) (ps : List ProcessFigures) (cs : List CoreFigures) (os : List ObjectFigures)
    (ss : List ServiceFigures) (e : Entry) (woken : List Waking) → AreCounted n ps cs os ss
    → n < MOST_ENTRIES → units e.call ≤ MOST_SPAN → ticks_in e.reply ≤ MOST_SPAN → length woken ≤ MOST_NOTICES
    → AreCounted (n + 1) (map (process_after e) ps) (map (core_after e) cs)
    (map (object_after e woken (map (process_after e) ps)) os) (map (service_after e) ss)
counted_more n ps cs os ss e woken counts room few few_ticks few_woken =
    let processes = map (process_after e) ps in record {
      few = omega (arith, room);
      each_process = all_mapped (IsProcessUpTo n) (IsProcessUpTo (n + 1)) (process_after e) (process_up_to n e few) ps counts.each_process;
      each_core = all_mapped (IsCoreUpTo n) (IsCoreUpTo (n + 1)) (core_after e) (core_up_to n e few few_ticks) cs counts.each_core;
      each_object = all_mapped (IsObjectUpTo n) (IsObjectUpTo (n + 1)) (object_after e woken processes)
          (object_up_to n e woken processes few_woken) os counts.each_object;
      each_settled = settled_more e woken processes os;
      each_service = all_mapped (IsServiceUpTo n) (IsServiceUpTo (n + 1)) (service_after e) (service_up_to n e) ss counts.each_service;
    }

-- no count is above that of no entry before any
objects_zero : (table : Table) (queues : List Queue)
    → AllByRecursion (IsObjectUpTo 0) (map (object_figures table []) queues)
objects_zero table [] = tt
objects_zero table (queue ∷ queues) = (
  record { given = omega arith; taken = omega arith; timeouts = omega arith; owner = tt },
  objects_zero table queues,
)

-- no object has a highest level before any entry
settled_zero : (table : Table) (processes : List ProcessFigures) (queues : List Queue)
    → AllByRecursion (IsSettled processes) (map (object_figures table []) queues)
settled_zero table processes [] = tt
settled_zero table processes (queue ∷ queues) =
    (record { content = tt; queue = tt }, settled_zero table processes queues)

pub none_counted : (table : Table) (ps cs : List ℕ) (qs : List Queue) (ss : List Service)
    → AreCounted 0 (map (process_figures []) ps) (map (core_figures []) cs) (map (object_figures table []) qs)
    (map (service_figures []) ss)
none_counted table ps cs qs ss = record {
  few = omega arith;
  each_process = processes_zero ps;
  each_core = cores_zero cs;
  each_object = objects_zero table qs;
  each_settled = settled_zero table (map (process_figures []) ps) qs;
  each_service = services_zero ss;
}
