-- A situation whose values fit in their words is that of its words.
use Rattle.std.proofs.Common.{◌≡◌, ℕ, ◌+◌, ◌*◌, ◌<◌, ◌≤◌, Bool, true, false, nat_lt, cond, List, [], ◌∷◌, ◌++◌, length, get_or, slice_index, take, ap, sym, ◌∙◌, refl, arith, append_assoc, zero, suc, pos, ℤ, Option, None, Some, inl, inr}
use Rattle.std.specs.Prelude.{◌^◌, All}
use Rattle.std.specs.List.{flat_map}
use Rattle.std.proofs.lemmas.Bool.{cases_lt}
use Rattle.std.proofs.lemmas.Bool.Decides.{nat_tests}
use Rattle.std.proofs.lemmas.List.{append-nil, ext_get_or, length-append, take_all}
use Rattle.std.proofs.Math.Seq.{take-suc}
use Rattle.apex_laws.specs.Premises.{AreOf}
use Rattle.apex_machine.specs.Deeds.{Objects}
use Rattle.apex_machine.specs.declared.works.Work.{Work}
use Rattle.apex_machine.specs.processes.Roster.{Disciplines, MutexRules, Roster, disciplines_of, nobody, record_at, rules_of}
use Rattle.apex_machine.specs.services.BlackboardServices.{BlackboardObject}
use Rattle.apex_machine.specs.services.BufferServices.{BufferObject}
use Rattle.apex_machine.specs.services.EventFlagServices.{EventFlagObject}
use Rattle.apex_machine.specs.services.MutexServices.{MutexObject}
use Rattle.apex_machine.specs.services.ProcessServices.{ProcessObject}
use Rattle.apex_machine.specs.services.SemaphoreServices.{SemaphoreObject}
use Rattle.apex_machine.specs.table.Table.{Table, no_process, process_config}
use Rattle.apex_pace.specs.Pace.{Paced}
use Rattle.apex_types.specs.Places.{map_places}
use Rattle.apex_types.specs.declared.limits.TheConstants.{MOST_MESSAGES}
use Rattle.apex_types.proofs.Places.{get_or-map_places, length-map_places}
use Rattle.apex_forms.proofs.Lengths.{length-cores, length-counted, length-parts, length-records}
use Rattle.apex_recall.proofs.PartsBack.{core_part_of, part_of, record_part_of, values_kept}
use Rattle.apex_recall.proofs.Places.{entry_record}
use Rattle.apex_recall.proofs.RecordsBack.{blackboard_back, buffer_back, created_back, event_flag_back, mutex_back, record_back, semaphore_back}
use Rattle.apex_recall.proofs.Singles.{mode_back}
use Rattle.apex_forms.specs.Codes.{mode_word}
use Rattle.apex_recall.specs.Values.{mode_in}
use Rattle.apex_choices.specs.Counts.{IsSamePaced}
use Rattle.apex_forms.specs.Objects.{blackboard_words, buffer_words, event_flag_words, mutex_words, semaphore_words}
use Rattle.apex_recall.specs.Objects.{blackboard_from, buffer_from, event_flag_from, mutex_from, process_from, semaphore_from}
use Rattle.apex_recall.specs.Reached.{MessagesFit, RecordFits, ShownFits}
use Rattle.apex_forms.specs.Records.{record_words}
use Rattle.apex_recall.specs.Records.{is_created_in, record_from}
use Rattle.apex_recall.specs.Restored.{IsOfTable, core_part, objects_from, open_in, paced_from, part, processes_in, records_from, records_in, roster_from}
use Rattle.apex_forms.specs.Stored.{core_words, cores_words, counted_count, counted_words, head_words, locks_words, records_words, words_of}
use Rattle.apex_recall.specs.Terms.{Mode, OpenWork, Record}

-- the values of the objects fit in their words
pub record AreInBounds (objects : Objects) : Type 0 where
  pub semaphores : All (λ (s : SemaphoreObject). s.value < 2 ^ 16) objects.semaphores
  pub few : All (λ (b : BufferObject). length b.messages ≤ MOST_MESSAGES) objects.buffers
  pub messages : All (λ (b : BufferObject). MessagesFit b.messages) objects.buffers
  pub shown : All (λ (b : BlackboardObject). ShownFits b.message) objects.blackboards

-- the paced situation is one of the table, as its words can say it
pub record IsHeld (table : Table) (s : Paced) : Type 0 where
  pub many : length s.situation.roster.records ≡ length table.processes
  pub attributes : (p : ℕ) → (record_at s.situation.roster p).attributes
      ≡ (process_config table p).attributes
  pub of : AreOf table s.situation.objects
  pub parts : IsOfTable table s.situation
  pub young : s.situation.roster.young
      ≡ pos (1 + (length table.processes + 1) * length table.processes)
  pub old : s.situation.roster.old ≡ pos 0
  pub records : (p : ℕ) → p < length s.situation.roster.records
      → RecordFits (record_at s.situation.roster p)
  pub stamps : (p : ℕ) → p < length s.situation.roster.records
      → (stamp : ℕ) × ((record_at s.situation.roster p).since ≡ pos stamp)
  pub inboxes : (p : ℕ) → p < length s.situation.roster.records
      → (record_at s.situation.roster p).inbox ≡ None
  pub objects : AreInBounds s.situation.objects
  pub works : (core : ℕ) → table.cores ≤ core → s.situation.works core ≡ None
  pub turns : (core : ℕ) → table.cores ≤ core → s.turns core ≡ 0
  pub worked : (core : ℕ) → table.cores ≤ core → s.worked core ≡ 0

-- a value below n, and another past it
below_or : {X : Type 0} (k n : ℕ) (v d w : X) → (k < n → v ≡ w) → (n ≤ k → d ≡ w)
    → cond (nat_lt k n) v d ≡ w
below_or k n v d w below past =
    elim (cases_lt k n) as (λ _. cond (nat_lt k n) v d ≡ w) [
      | inl lt ↦ let e = below lt in grind (arith, nat_tests)
      | inr ge ↦ let e = past ge in grind (arith, nat_tests)
    ]

open_of : (work : Work) (unbroken : Bool) (turns worked : ℕ)
    → open_in (core_words (Some (record { work = work; unbroken = unbroken })) turns worked)
    ≡ Some (record { work = work; unbroken = unbroken })
open_of work true turns worked = refl
open_of work false turns worked = refl

open_back : (begun : Option OpenWork) (turns worked : ℕ)
    → open_in (core_words begun turns worked) ≡ begun
open_back None turns worked = refl
open_back (Some o) turns worked = open_of o.work o.unbroken turns worked

turns_back : (begun : Option OpenWork) (turns worked : ℕ)
    → slice_index (core_words begun turns worked) 3 ≡ turns
turns_back None turns worked = refl
turns_back (Some o) turns worked = refl

worked_back : (begun : Option OpenWork) (turns worked : ℕ)
    → slice_index (core_words begun turns worked) 4 ≡ worked
worked_back None turns worked = refl
worked_back (Some o) turns worked = refl

-- the words, seen from each part
from_cores : (h c r k l : List ℕ) → h ++ c ++ r ++ k ++ l ≡ h ++ c ++ (r ++ (k ++ l))
from_cores h c r k l = simp append_assoc

from_records : (h c r k l : List ℕ) → h ++ c ++ r ++ k ++ l ≡ (h ++ c) ++ r ++ (k ++ l)
from_records h c r k l = simp append_assoc

from_semaphores : (h c r s b d l : List ℕ)
    → h ++ c ++ r ++ (s ++ b ++ d) ++ l ≡ (h ++ c ++ r) ++ s ++ (b ++ (d ++ l))
from_semaphores h c r s b d l = simp append_assoc

from_buffers : (h c r s b d l : List ℕ)
    → h ++ c ++ r ++ (s ++ b ++ d) ++ l ≡ (h ++ c ++ r ++ s) ++ b ++ (d ++ l)
from_buffers h c r s b d l = simp append_assoc

from_blackboards : (h c r s b d l : List ℕ)
    → h ++ c ++ r ++ (s ++ b ++ d) ++ l ≡ (h ++ c ++ r ++ s ++ b) ++ d ++ l
from_blackboards h c r s b d l = simp append_assoc

from_flags : (h c r k e m : List ℕ)
    → h ++ c ++ r ++ k ++ (e ++ m) ≡ (h ++ c ++ r ++ k) ++ e ++ m
from_flags h c r k e m = simp append_assoc

from_mutexes : (h c r k e m : List ℕ)
    → h ++ c ++ r ++ k ++ (e ++ m) ≡ (h ++ c ++ r ++ k ++ e) ++ m ++ []
from_mutexes h c r k e m = simp (append_assoc, append-nil)

-- the words of a core
pub core_part_is : (table : Table) (s : Paced) (core : ℕ) → core < table.cores
    → core_part (words_of table s) core
    ≡ core_words (s.situation.works core) (s.turns core) (s.worked core)
core_part_is table s core within =
    let objects = s.situation.objects in
    let records = records_words objects.processes s.situation.roster.records in
    ap (λ (words : List ℕ). part words 3 core 5) (from_cores (head_words s)
    (cores_words table.cores s) records (counted_words objects) (locks_words objects))
    ∙ core_part_of table.cores s (head_words s)
    (records ++ (counted_words objects ++ locks_words objects)) 3 core refl within

pub record_part_is : (table : Table) (s : Paced) (p : ℕ) (d : ProcessObject)
    → p < length s.situation.objects.processes → p < length s.situation.roster.records
    → part (words_of table s) (records_from table) p 11
    ≡ record_words (get_or s.situation.objects.processes p d).created
    (record_at s.situation.roster p)
record_part_is table s p d in_os in_rs =
    let objects = s.situation.objects in
    let records = records_words objects.processes s.situation.roster.records in
    let cores = length-cores table.cores s in
    let here : length (head_words s ++ cores_words table.cores s) ≡ records_from table =
    length-append (head_words s) (cores_words table.cores s) ∙ omega arith in
    ap (λ (words : List ℕ). part words (records_from table) p 11) (from_records (head_words s)
    (cores_words table.cores s) records (counted_words objects) (locks_words objects))
    ∙ record_part_of objects.processes s.situation.roster.records
    (head_words s ++ cores_words table.cores s) (counted_words objects ++ locks_words objects)
    (records_from table) p d here in_os in_rs

-- the roster with these parts
abbrev roster_with : Roster → ℕ → Mode → List Record → ℤ → ℤ → Disciplines → MutexRules → Roster
roster_with r cores mode records young old disciplines rules = record r {
  cores = cores;
  mode = mode;
  records = records;
  young = young;
  old = old;
  disciplines = disciplines;
  rules = rules;
}

roster_same : (r : Roster) (cores : ℕ) (mode : Mode) (records : List Record) (young old : ℤ)
    (disciplines : Disciplines) (rules : MutexRules) → cores ≡ r.cores → mode ≡ r.mode
    → records ≡ r.records → young ≡ r.young → old ≡ r.old → disciplines ≡ r.disciplines
    → rules ≡ r.rules → roster_with r cores mode records young old disciplines rules ≡ r
roster_same r cores mode records young old disciplines rules a b c d e f g =
    rw (a, b, c, d, e, f, g)

records_back : (table : Table) (s : Paced) → IsHeld table s
    → records_in table (words_of table s) ≡ s.situation.roster.records
records_back table s held =
    let words = words_of table s in
    let rs = s.situation.roster.records in
    let many = held.many in
    ext_get_or nobody (records_in table words) rs
    (length-map_places (entry_record table words) 0 table.processes ∙ sym held.many)
    (λ p within.
    let counted = length-map_places (entry_record table words) 0 table.processes in
    let known : p < length table.processes = omega arith in
    let in_rs : p < length rs = omega arith in
    let processes = held.of.processes in
    let in_os : p < length s.situation.objects.processes = omega arith in
    let z : 0 + p ≡ p = omega arith in
    let o : ProcessObject = record { created = false } in
    get_or-map_places (entry_record table words) 0 table.processes p no_process nobody known
    ∙ ap (λ k. entry_record table words k (process_config table p)) z
    ∙ ap (record_from (process_config table p).attributes)
    (record_part_is table s p o in_os in_rs)
    ∙ record_back (process_config table p).attributes
    (get_or s.situation.objects.processes p o).created (record_at s.situation.roster p)
    (sym (held.attributes p)) (held.records p in_rs) (held.stamps p in_rs).0
    (held.stamps p in_rs).1 (held.inboxes p in_rs))

roster_back : (table : Table) (s : Paced) → IsHeld table s
    → roster_from table (words_of table s) ≡ s.situation.roster
roster_back table s held =
    roster_same s.situation.roster table.cores (mode_in (mode_word s.situation.roster.mode))
    (records_in table (words_of table s))
    (pos (1 + (length table.processes + 1) * length table.processes)) (pos 0)
    (disciplines_of table) (rules_of table)
    (sym held.parts.cores) (mode_back s.situation.roster.mode) (records_back table s held)
    (sym held.young) (sym held.old) (sym held.parts.disciplines) (sym held.parts.rules)

-- the first processes are created or not as before
processes_back : (os : List ProcessObject) (words : List ℕ) (from : ℕ) (d : ProcessObject)
    → ((k : ℕ) → k < length os → is_created_in (part words from k 11) ≡ (get_or os k d).created)
    → (n : ℕ) → n ≤ length os → processes_in n words from ≡ take n os
processes_back os words from d each zero within = refl
processes_back os words from d each (suc n) within =
    ap (λ l. l ++ process_from (is_created_in (part words from n 11)) ∷ [])
    (processes_back os words from d each n (omega arith))
    ∙ ap (λ (b : Bool). take n os ++ process_from b ∷ []) (each n (omega arith))
    ∙ sym (take-suc os n d (omega arith))

-- the length of the words before those of the objects
length-before : (table : Table) (s : Paced) → IsHeld table s
    → length (head_words s ++ cores_words table.cores s
    ++ records_words s.situation.objects.processes s.situation.roster.records)
    ≡ records_from table + length s.situation.objects.processes * 11
length-before table s held =
    let os = s.situation.objects.processes in
    let rs = s.situation.roster.records in
    let processes = held.of.processes in
    let many = held.many in
    let cores = length-cores table.cores s in
    let records = length-records os rs (held.of.processes ∙ sym held.many) in
    let one = length-append (head_words s ++ cores_words table.cores s) (records_words os rs) in
    let other = length-append (head_words s) (cores_words table.cores s) in
    omega arith

-- the objects of one kind, whose words are between these
kind_back : {X : Type 0} (from_words : X → List ℕ → X) (f : X → List ℕ) (many : ℕ)
    → ((x : X) → length (f x) ≡ many) → (xs : List X) (front tail words : List ℕ) (from : ℕ)
    → words ≡ front ++ flat_map f xs ++ tail → length front ≡ from
    → ((k : ℕ) (d : X) → k < length xs
    → from_words (get_or xs k d) (f (get_or xs k d)) ≡ get_or xs k d)
    → map_places (λ k x. from_words x (part words from k many)) 0 xs ≡ xs
kind_back from_words f many each xs front tail words from shape is back =
    values_kept (λ k x. from_words x (part words from k many)) xs
    (λ k d within. ap (from_words (get_or xs k d))
    (ap (λ l. part l from k many) shape ∙ part_of f many each xs front tail from k d is within)
    ∙ back k d within)

-- the objects of these lists
abbrev pub objects_with : List ProcessObject → List SemaphoreObject → List BufferObject
    → List BlackboardObject → List EventFlagObject → List MutexObject → Objects
objects_with processes semaphores buffers blackboards event_flags mutexes = record {
  processes = processes;
  semaphores = semaphores;
  buffers = buffers;
  blackboards = blackboards;
  event_flags = event_flags;
  mutexes = mutexes;
}

pub objects_same : (o : Objects) (processes : List ProcessObject) (semaphores : List SemaphoreObject)
    (buffers : List BufferObject) (blackboards : List BlackboardObject)
    (event_flags : List EventFlagObject) (mutexes : List MutexObject)
    → processes ≡ o.processes → semaphores ≡ o.semaphores → buffers ≡ o.buffers
    → blackboards ≡ o.blackboards → event_flags ≡ o.event_flags → mutexes ≡ o.mutexes
    → objects_with processes semaphores buffers blackboards event_flags mutexes ≡ o
objects_same o p s b d e m is_p is_s is_b is_d is_e is_m = rw (is_p, is_s, is_b, is_d, is_e, is_m)

objects_back : (table : Table) (s : Paced) → IsHeld table s
    → objects_from s.situation.objects (words_of table s) (records_from table)
    ≡ s.situation.objects
objects_back table s held =
    let o = s.situation.objects in
    let words = words_of table s in
    let h = head_words s in
    let c = cores_words table.cores s in
    let r = records_words o.processes s.situation.roster.records in
    let k = counted_words o in
    let ss = flat_map semaphore_words o.semaphores in
    let bs = flat_map buffer_words o.buffers in
    let ds = flat_map blackboard_words o.blackboards in
    let es = flat_map event_flag_words o.event_flags in
    let ms = flat_map mutex_words o.mutexes in
    let behind = records_from table + length o.processes * 11 in
    let buffers_from = behind + length o.semaphores * 2 in
    let blackboards_from = buffers_from + length o.buffers * 17 in
    let flags_from = behind + counted_count o in
    let mutexes_from = flags_from + length o.event_flags * 2 in
    let before = length-before table s held in
    let to_buffers : length (h ++ c ++ r ++ ss) ≡ buffers_from =
    length-append (h ++ c ++ r) ss
    ∙ ap (λ n. n + length ss) before
    ∙ ap (λ n. behind + n) (length-parts semaphore_words 2 (λ _. refl) o.semaphores) in
    let to_blackboards : length (h ++ c ++ r ++ ss ++ bs) ≡ blackboards_from =
    length-append (h ++ c ++ r ++ ss) bs
    ∙ ap (λ n. n + length bs) to_buffers
    ∙ ap (λ n. buffers_from + n) (length-parts buffer_words 17 (λ _. refl) o.buffers) in
    let to_flags : length (h ++ c ++ r ++ k) ≡ flags_from =
    length-append (h ++ c ++ r) k ∙ ap (λ n. n + length k) before
    ∙ ap (λ n. behind + n) (length-counted o) in
    let to_mutexes : length (h ++ c ++ r ++ k ++ es) ≡ mutexes_from =
    length-append (h ++ c ++ r ++ k) es ∙ ap (λ n. n + length es) to_flags
    ∙ ap (λ n. flags_from + n) (length-parts event_flag_words 2 (λ _. refl) o.event_flags) in
    let blank : ProcessObject = record { created = false } in
    let processes = held.of.processes in
    let many = held.many in
    objects_same o (processes_in (length o.processes) words (records_from table))
    (map_places (λ k x. semaphore_from x (part words behind k 2)) 0 o.semaphores)
    (map_places (λ k x. buffer_from x (part words buffers_from k 17)) 0 o.buffers)
    (map_places (λ k x. blackboard_from x (part words blackboards_from k 2)) 0 o.blackboards)
    (map_places (λ k x. event_flag_from (part words flags_from k 2)) 0 o.event_flags)
    (map_places (λ k x. mutex_from (part words mutexes_from k 1)) 0 o.mutexes)
    (processes_back o.processes words (records_from table) blank
    (λ p within.
    let in_rs : p < length s.situation.roster.records = omega arith in
    ap is_created_in (record_part_is table s p blank within in_rs)
    ∙ created_back (get_or o.processes p blank).created (record_at s.situation.roster p))
    (length o.processes) (omega arith) ∙ take_all (length o.processes) o.processes (omega arith))
    (kind_back semaphore_from semaphore_words 2 (λ _. refl) o.semaphores (h ++ c ++ r)
    (bs ++ (ds ++ locks_words o)) words behind (from_semaphores h c r ss bs ds (locks_words o))
    before (λ k d within. semaphore_back (get_or o.semaphores k d)
    (held.objects.semaphores k d within)))
    (kind_back buffer_from buffer_words 17 (λ _. refl) o.buffers (h ++ c ++ r ++ ss)
    (ds ++ locks_words o) words buffers_from (from_buffers h c r ss bs ds (locks_words o))
    to_buffers (λ k d within. buffer_back (get_or o.buffers k d) (held.objects.few k d within)
    (held.objects.messages k d within)))
    (kind_back blackboard_from blackboard_words 2 (λ _. refl) o.blackboards (h ++ c ++ r ++ ss ++ bs)
    (locks_words o) words blackboards_from (from_blackboards h c r ss bs ds (locks_words o))
    to_blackboards (λ k d within. blackboard_back (get_or o.blackboards k d)
    (held.objects.shown k d within)))
    (kind_back (λ _ l. event_flag_from l) event_flag_words 2 (λ _. refl) o.event_flags
    (h ++ c ++ r ++ k) ms words flags_from (from_flags h c r k es ms) to_flags
    (λ k d within. event_flag_back (get_or o.event_flags k d)))
    (kind_back (λ _ l. mutex_from l) mutex_words 1 (λ _. refl) o.mutexes (h ++ c ++ r ++ k ++ es)
    [] words mutexes_from (from_mutexes h c r k es ms) to_mutexes
    (λ k d within. mutex_back (get_or o.mutexes k d)))

-- a situation that is held is that of its words
pub words_back : (table : Table) (s : Paced) → IsHeld table s
    → IsSamePaced (paced_from table (words_of table s)) s
words_back table s held = record {
  situation = record {
    roster = roster_back table s held;
    objects = sym (held.parts.objects (words_of table s)) ∙ objects_back table s held;
    works = λ core. below_or core table.cores
        (open_in (core_part (words_of table s) core)) None (s.situation.works core)
        (λ within. ap open_in (core_part_is table s core within)
        ∙ open_back (s.situation.works core) (s.turns core) (s.worked core))
        (λ past. sym (held.works core past));
    made = refl;
  };
  turns = λ core. below_or core table.cores
      (slice_index (core_part (words_of table s) core) 3) 0 (s.turns core)
      (λ within. ap (λ l. slice_index l 3) (core_part_is table s core within)
      ∙ turns_back (s.situation.works core) (s.turns core) (s.worked core))
      (λ past. sym (held.turns core past));
  worked = λ core. below_or core table.cores
      (slice_index (core_part (words_of table s) core) 4) 0 (s.worked core)
      (λ within. ap (λ l. slice_index l 4) (core_part_is table s core within)
      ∙ worked_back (s.situation.works core) (s.turns core) (s.worked core))
      (λ past. sym (held.worked core past));
}
