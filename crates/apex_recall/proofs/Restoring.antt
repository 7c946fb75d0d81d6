-- What is restored is of the table.
use Rattle.std.proofs.Common.{◌≡◌, ℕ, ◌+◌, ◌*◌, ◌≤◌, List, [], length, slice_index, ap, sym, ◌∙◌, arith, pos, ℤ}
use Rattle.std.proofs.lemmas.Nat.{mul-le}
use Rattle.apex_laws.specs.Premises.{AreOf}
use Rattle.apex_machine.specs.Deeds.{Objects}
use Rattle.apex_machine.specs.Machine.{objects_after}
use Rattle.apex_machine.specs.Situations.{Situation}
use Rattle.apex_machine.specs.processes.Roster.{Disciplines, MutexRules, Roster, disciplines_of, rules_of}
use Rattle.apex_machine.specs.services.BlackboardServices.{blackboard_kind}
use Rattle.apex_machine.specs.services.BufferServices.{buffer_kind}
use Rattle.apex_machine.specs.services.EventFlagServices.{event_flag_kind}
use Rattle.apex_machine.specs.services.MutexServices.{mutex_kind}
use Rattle.apex_machine.specs.services.ProcessServices.{process_kind}
use Rattle.apex_machine.specs.services.SemaphoreServices.{semaphore_kind}
use Rattle.apex_machine.specs.table.Table.{Table}
use Rattle.apex_types.proofs.Places.{length-map_places}
use Rattle.apex_recall.proofs.Places.{length-processes}
use Rattle.apex_recall.specs.Values.{mode_in}
use Rattle.apex_recall.specs.Restored.{IsOfTable, records_from, records_in, roster_from}
use Rattle.apex_forms.specs.Stored.{counted_count, locks_count, word_count}
use Rattle.apex_recall.specs.Terms.{Mode, Record}

pub few_stamps : (n : ℕ) → n ≤ 64 → (n + 1) * n ≤ 4160
few_stamps n few = mul-le (n + 1) n 65 64 (omega arith) few

-- there is an object for each entry of the table
pub of_table : (table : Table) (s : Situation) → IsOfTable table s → AreOf table s.objects
of_table table s of =
    let same = of.objects [] in
    let o = s.objects in
    let n = objects_after table [] in
    record {
      processes = sym (length-processes (length o.processes) [] (records_from table))
          ∙ ap (λ (x : Objects). length x.processes) same
          ∙ length-processes (length n.processes) [] (records_from table)
          ∙ length-map_places (process_kind.after []) 0 table.processes;
      semaphores = sym (length-map_places _ 0 o.semaphores)
          ∙ ap (λ (x : Objects). length x.semaphores) same
          ∙ length-map_places _ 0 n.semaphores
          ∙ length-map_places (semaphore_kind.after []) 0 table.semaphores;
      buffers = sym (length-map_places _ 0 o.buffers)
          ∙ ap (λ (x : Objects). length x.buffers) same
          ∙ length-map_places _ 0 n.buffers
          ∙ length-map_places (buffer_kind.after []) 0 table.buffers;
      blackboards = sym (length-map_places _ 0 o.blackboards)
          ∙ ap (λ (x : Objects). length x.blackboards) same
          ∙ length-map_places _ 0 n.blackboards
          ∙ length-map_places (blackboard_kind.after []) 0 table.blackboards;
      event_flags = sym (length-map_places _ 0 o.event_flags)
          ∙ ap (λ (x : Objects). length x.event_flags) same
          ∙ length-map_places _ 0 n.event_flags
          ∙ length-map_places (event_flag_kind.after []) 0 table.event_flags;
      mutexes = sym (length-map_places _ 0 o.mutexes)
          ∙ ap (λ (x : Objects). length x.mutexes) same
          ∙ length-map_places _ 0 n.mutexes
          ∙ length-map_places (mutex_kind.after []) 0 table.mutexes;
    }

-- their words are among those of a situation of the table
pub objects_fit : (table : Table) (s : Situation) (words : List ℕ) → IsOfTable table s
    → length words ≡ word_count table
    → records_from table + length s.objects.processes * 11 + counted_count s.objects
    + locks_count s.objects ≤ length words
objects_fit table s words of many =
    let there = of_table table s of in
    let processes = there.processes in
    let semaphores = there.semaphores in
    let buffers = there.buffers in
    let blackboards = there.blackboards in
    let event_flags = there.event_flags in
    let mutexes = there.mutexes in
    omega arith

-- the roster of these parts
abbrev roster_of : List ℕ → ℕ → Mode → List Record → ℤ → Disciplines → MutexRules → Roster
roster_of words cores mode records young disciplines rules = record {
  cores = cores;
  mode = mode;
  now = slice_index words 1;
  records = records;
  young = young;
  old = pos 0;
  disciplines = disciplines;
  rules = rules;
}

same_parts : (table : Table) (words : List ℕ) (cores : ℕ) (mode : Mode) (young : ℤ)
    (disciplines : Disciplines) (rules : MutexRules) → cores ≡ table.cores
    → mode ≡ mode_in (slice_index words 0)
    → young ≡ pos (1 + (length table.processes + 1) * length table.processes)
    → disciplines ≡ disciplines_of table → rules ≡ rules_of table
    → roster_of words cores mode (records_in table words) young disciplines rules
    ≡ roster_from table words
same_parts table words cores mode young disciplines rules a b c d e =
    ap (λ x. roster_of words x mode (records_in table words) young disciplines rules) a
    ∙ ap (λ x. roster_of words table.cores x (records_in table words) young disciplines rules) b
    ∙ ap (λ x. roster_of words table.cores (mode_in (slice_index words 0))
    (records_in table words) x disciplines rules) c
    ∙ ap (λ x. roster_of words table.cores (mode_in (slice_index words 0))
    (records_in table words) (pos (1 + (length table.processes + 1) * length table.processes)) x
    rules) d
    ∙ ap (λ x. roster_of words table.cores (mode_in (slice_index words 0))
    (records_in table words) (pos (1 + (length table.processes + 1) * length table.processes))
    (disciplines_of table) x) e

-- the roster is that of the words
pub roster_restored : (table : Table) (words : List ℕ) (before between after : Roster) (mode : Mode)
    (young : ℤ) → before.cores ≡ table.cores → before.disciplines ≡ disciplines_of table
    → before.rules ≡ rules_of table → between ≡ record before { records = records_in table words }
    → after ≡ record between {
      mode = mode;
      now = slice_index words 1;
      young = young;
      old = pos 0;
    }
    → mode ≡ mode_in (slice_index words 0)
    → young ≡ pos (1 + (length table.processes + 1) * length table.processes)
    → after ≡ roster_from table words
roster_restored table words before between after mode young cores disciplines rules is_between
    is_after is_mode is_young =
    is_after ∙ ap (λ (r : Roster). record r {
      mode = mode;
      now = slice_index words 1;
      young = young;
      old = pos 0;
    }) is_between
    ∙ same_parts table words before.cores mode young before.disciplines before.rules cores is_mode
    is_young disciplines rules
