-- A situation that a search reaches has the fixed parts that its table gives.
use Rattle.std.proofs.Common.{◌≡◌, ℕ, ◌+◌, ◌*◌, ◌<◌, Bool, List, [], length, drop, get_or, Option, slice_index, ap, sym, ◌∙◌, refl, arith}
use Rattle.std.specs.Prelude.{◌%◌, ◌^◌}
use Rattle.std.proofs.lemmas.List.{ext_get_or}
use Rattle.apex_machine.specs.Deeds.{Objects}
use Rattle.apex_machine.specs.Machine.{objects_after}
use Rattle.apex_machine.specs.services.BlackboardServices.{BlackboardObject, blackboard_kind}
use Rattle.apex_machine.specs.services.BufferServices.{BufferObject, buffer_kind}
use Rattle.apex_machine.specs.services.EventFlagServices.{EventFlagObject, event_flag_kind}
use Rattle.apex_machine.specs.services.MutexServices.{MutexObject, mutex_kind}
use Rattle.apex_machine.specs.services.ProcessServices.{process_kind}
use Rattle.apex_machine.specs.services.SemaphoreServices.{SemaphoreObject, semaphore_kind}
use Rattle.apex_machine.specs.table.Table.{IsLawful, Table}
use Rattle.apex_pace.specs.Pace.{Paced}
use Rattle.apex_types.specs.Places.{map_places}
use Rattle.apex_types.proofs.Places.{get_or-map_places, length-map_places}
use Rattle.apex_recall.proofs.ReachedNext.{opening_reached}
use Rattle.apex_recall.proofs.WordsBack.{objects_same}
use Rattle.apex_recall.specs.Values.{is_set, message_in}
use Rattle.apex_recall.specs.Objects.{blackboard_from, buffer_from, event_flag_from, messages_in, mutex_from, semaphore_from}
use Rattle.apex_recall.specs.Reached.{IsReached, ObjectsFit}
use Rattle.apex_recall.specs.Restored.{IsOfTable, objects_in, part, processes_in, records_from}
use Rattle.apex_recall.specs.Terms.{Message}

-- two lists whose elements give the same values
values_alike : {A : Type 0} (f : ℕ → A → A) (xs ys : List A) (d : A) → length xs ≡ length ys
    → ((k : ℕ) → f k (get_or xs k d) ≡ f k (get_or ys k d)) → map_places f 0 xs ≡ map_places f 0 ys
values_alike f xs ys d same each =
    let of_xs = length-map_places f 0 xs in
    let of_ys = length-map_places f 0 ys in
    ext_get_or d (map_places f 0 xs) (map_places f 0 ys) (of_xs ∙ same ∙ sym of_ys) (λ k within.
    let z : 0 + k ≡ k = omega arith in
    let in_xs : k < length xs = omega (arith, within, of_xs) in
    let in_ys : k < length ys = omega (arith, in_xs, same) in
    get_or-map_places f 0 xs k d d in_xs ∙ ap (λ n. f n (get_or xs k d)) z ∙ each k
    ∙ sym (get_or-map_places f 0 ys k d d in_ys ∙ ap (λ n. f n (get_or ys k d)) z))

-- an object of these parts
abbrev semaphore_of : ℕ → Bool → ℕ → SemaphoreObject
semaphore_of maximum created value =
    record { maximum = maximum; created = created; value = value }

abbrev buffer_of : ℕ → ℕ → Bool → List Message → BufferObject
buffer_of longest capacity created messages =
    record { longest = longest; capacity = capacity; created = created; messages = messages }

abbrev blackboard_of : ℕ → Bool → Option Message → BlackboardObject
blackboard_of longest created message =
    record { longest = longest; created = created; message = message }

semaphore_alike : (x y : SemaphoreObject) (words : List ℕ) → x.maximum ≡ y.maximum
    → semaphore_from x words ≡ semaphore_from y words
semaphore_alike x y words maximum =
    ap (λ (n : ℕ). semaphore_of n (is_set (slice_index words 0)) (slice_index words 1 % 2 ^ 16)) maximum

buffer_alike : (x y : BufferObject) (words : List ℕ) → x.longest ≡ y.longest
    → x.capacity ≡ y.capacity → buffer_from x words ≡ buffer_from y words
buffer_alike x y words longest capacity =
    ap (λ (n : ℕ). buffer_of n x.capacity (is_set (slice_index words 0)) (messages_in (drop 1 words))) longest
    ∙ ap (λ (n : ℕ). buffer_of y.longest n (is_set (slice_index words 0)) (messages_in (drop 1 words))) capacity

blackboard_alike : (x y : BlackboardObject) (words : List ℕ) → x.longest ≡ y.longest
    → blackboard_from x words ≡ blackboard_from y words
blackboard_alike x y words longest =
    ap (λ (n : ℕ). blackboard_of n (is_set (slice_index words 0)) (message_in (slice_index words 1))) longest

module _ (table : Table) (lawful : IsLawful table) (s : Paced) (reached : IsReached table s) (words : List ℕ) where
  abbrev X : Objects
  X = s.situation.objects

  abbrev O : Objects
  O = objects_after table []

  first : ObjectsFit table O
  first = (opening_reached table lawful).objects

  many_processes : length X.processes ≡ length O.processes
  many_processes = reached.of.objects.processes ∙ sym (length-map_places (process_kind.after []) 0 table.processes)

  many_semaphores : length X.semaphores ≡ length O.semaphores
  many_semaphores = reached.of.objects.semaphores ∙ sym (length-map_places (semaphore_kind.after []) 0 table.semaphores)

  many_buffers : length X.buffers ≡ length O.buffers
  many_buffers = reached.of.objects.buffers ∙ sym (length-map_places (buffer_kind.after []) 0 table.buffers)

  many_blackboards : length X.blackboards ≡ length O.blackboards
  many_blackboards = reached.of.objects.blackboards ∙ sym (length-map_places (blackboard_kind.after []) 0 table.blackboards)

  many_flags : length X.event_flags ≡ length O.event_flags
  many_flags = reached.of.objects.event_flags ∙ sym (length-map_places (event_flag_kind.after []) 0 table.event_flags)

  many_mutexes : length X.mutexes ≡ length O.mutexes
  many_mutexes = reached.of.objects.mutexes ∙ sym (length-map_places (mutex_kind.after []) 0 table.mutexes)

  -- the places of the first words of each kind
  abbrev semaphores_of : Objects → ℕ
  semaphores_of o = records_from table + length o.processes * 11

  abbrev buffers_of : Objects → ℕ
  buffers_of o = semaphores_of o + length o.semaphores * 2

  abbrev blackboards_of : Objects → ℕ
  blackboards_of o = buffers_of o + length o.buffers * 17

  abbrev flags_of : Objects → ℕ
  flags_of o = semaphores_of o + (length o.semaphores * 2 + length o.buffers * 17 + length o.blackboards * 2)

  abbrev mutexes_of : Objects → ℕ
  mutexes_of o = flags_of o + length o.event_flags * 2

  abbrev semaphores_in : ℕ → List SemaphoreObject → List SemaphoreObject
  semaphores_in at xs = map_places (λ k (x : SemaphoreObject). semaphore_from x (part words at k 2)) 0 xs

  abbrev buffers_in : ℕ → List BufferObject → List BufferObject
  buffers_in at xs = map_places (λ k (x : BufferObject). buffer_from x (part words at k 17)) 0 xs

  abbrev blackboards_in : ℕ → List BlackboardObject → List BlackboardObject
  blackboards_in at xs = map_places (λ k (x : BlackboardObject). blackboard_from x (part words at k 2)) 0 xs

  abbrev flags_in : ℕ → List EventFlagObject → List EventFlagObject
  flags_in at xs = map_places (λ k (x : EventFlagObject). event_flag_from (part words at k 2)) 0 xs

  abbrev mutexes_in : ℕ → List MutexObject → List MutexObject
  mutexes_in at xs = map_places (λ k (x : MutexObject). mutex_from (part words at k 1)) 0 xs

  semaphores_alike : semaphores_in (semaphores_of X) X.semaphores ≡ semaphores_in (semaphores_of O) O.semaphores
  semaphores_alike =
      let at : semaphores_of X ≡ semaphores_of O = omega (arith, many_processes) in
      ap (λ n. semaphores_in n X.semaphores) at
      ∙ values_alike (λ k (x : SemaphoreObject). semaphore_from x (part words (semaphores_of O) k 2)) X.semaphores O.semaphores
      semaphore_kind.absent many_semaphores (λ k. semaphore_alike (get_or X.semaphores k semaphore_kind.absent)
      (get_or O.semaphores k semaphore_kind.absent) (part words (semaphores_of O) k 2)
      ((reached.objects.semaphores k).0 ∙ sym (first.semaphores k).0))

  buffers_alike : buffers_in (buffers_of X) X.buffers ≡ buffers_in (buffers_of O) O.buffers
  buffers_alike =
      let at : buffers_of X ≡ buffers_of O = omega (arith, many_processes, many_semaphores) in
      ap (λ n. buffers_in n X.buffers) at
      ∙ values_alike (λ k (x : BufferObject). buffer_from x (part words (buffers_of O) k 17)) X.buffers O.buffers
      buffer_kind.absent many_buffers (λ k. buffer_alike (get_or X.buffers k buffer_kind.absent)
      (get_or O.buffers k buffer_kind.absent) (part words (buffers_of O) k 17)
      ((reached.objects.buffers k).longest ∙ sym (first.buffers k).longest)
      ((reached.objects.buffers k).capacity ∙ sym (first.buffers k).capacity))

  blackboards_alike : blackboards_in (blackboards_of X) X.blackboards ≡ blackboards_in (blackboards_of O) O.blackboards
  blackboards_alike =
      let at : blackboards_of X ≡ blackboards_of O = omega (arith, many_processes, many_semaphores, many_buffers) in
      ap (λ n. blackboards_in n X.blackboards) at
      ∙ values_alike (λ k (x : BlackboardObject). blackboard_from x (part words (blackboards_of O) k 2)) X.blackboards O.blackboards
      blackboard_kind.absent many_blackboards (λ k. blackboard_alike (get_or X.blackboards k blackboard_kind.absent)
      (get_or O.blackboards k blackboard_kind.absent) (part words (blackboards_of O) k 2)
      ((reached.objects.blackboards k).0 ∙ sym (first.blackboards k).0))

  flags_alike : flags_in (flags_of X) X.event_flags ≡ flags_in (flags_of O) O.event_flags
  flags_alike =
      let at : flags_of X ≡ flags_of O = omega (arith, many_processes, many_semaphores, many_buffers, many_blackboards) in
      ap (λ n. flags_in n X.event_flags) at
      ∙ values_alike (λ k (x : EventFlagObject). event_flag_from (part words (flags_of O) k 2)) X.event_flags O.event_flags
      event_flag_kind.absent many_flags (λ k. refl)

  mutexes_alike : mutexes_in (mutexes_of X) X.mutexes ≡ mutexes_in (mutexes_of O) O.mutexes
  mutexes_alike =
      let at : mutexes_of X ≡ mutexes_of O = omega (arith, many_processes, many_semaphores, many_buffers, many_blackboards, many_flags) in
      ap (λ n. mutexes_in n X.mutexes) at
      ∙ values_alike (λ k (x : MutexObject). mutex_from (part words (mutexes_of O) k 1)) X.mutexes O.mutexes
      mutex_kind.absent many_mutexes (λ k. refl)

  objects_alike : objects_in table X words ≡ objects_in table O words
  objects_alike =
      objects_same (objects_in table O words) (processes_in (length X.processes) words (records_from table))
      (semaphores_in (semaphores_of X) X.semaphores) (buffers_in (buffers_of X) X.buffers)
      (blackboards_in (blackboards_of X) X.blackboards) (flags_in (flags_of X) X.event_flags)
      (mutexes_in (mutexes_of X) X.mutexes)
      (ap (λ n. processes_in n words (records_from table)) many_processes) semaphores_alike buffers_alike
      blackboards_alike flags_alike mutexes_alike

pub parts_kept : (table : Table) → IsLawful table → (s : Paced) → IsReached table s → IsOfTable table s.situation
parts_kept table lawful s reached = record {
  cores = reached.records.cores;
  records = reached.of.records;
  disciplines = reached.records.disciplines;
  rules = reached.records.rules;
  objects = objects_alike table lawful s reached;
}
