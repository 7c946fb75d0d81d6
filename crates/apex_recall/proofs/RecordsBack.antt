-- Processes and objects are those of their words.
use Rattle.std.proofs.Common.{◌≡◌, ℕ, ◌%◌, ◌^◌, ◌<◌, ◌≤◌, ◌==◌, Bool, List, [], ◌∷◌, length, slice_index, ap, sym, ◌∙◌, refl, arith, pos, w64, None, subst}
use Rattle.std.specs.Prelude.{is_some}
use Rattle.std.specs.Int.{to_le_bytes}
use Rattle.std.proofs.lemmas.List.{take_all}
use Rattle.apex_machine.specs.services.BlackboardServices.{BlackboardObject}
use Rattle.apex_machine.specs.services.BufferServices.{BufferObject}
use Rattle.apex_machine.specs.services.EventFlagServices.{EventFlagObject}
use Rattle.apex_machine.specs.services.MutexServices.{MutexObject}
use Rattle.apex_machine.specs.services.SemaphoreServices.{SemaphoreObject}
use Rattle.apex_types.specs.declared.limits.TheConstants.{MOST_CORES}
use Rattle.apex_recall.proofs.RecordsOf.{record_of_parts}
use Rattle.apex_recall.proofs.Singles.{bytes_back, flag_back, flag_small, holdings_back, instant_back, kind_small, message_back, messages_back, place_small, suspender_back, suspender_small, wait_back}
use Rattle.apex_forms.specs.Codes.{code_of, flag_word, suspender_byte}
use Rattle.apex_forms.specs.Objects.{blackboard_words, buffer_words, event_flag_words, mutex_words, semaphore_words}
use Rattle.apex_recall.specs.Objects.{blackboard_from, buffer_from, event_flag_from, mutex_from, semaphore_from}
use Rattle.apex_recall.specs.Reached.{MessagesFit, RecordFits, ShownFits}
use Rattle.apex_forms.specs.Records.{byte_word, mark_word, record_words, stamp_word}
use Rattle.apex_recall.specs.Records.{IsCoreWord, is_created_in, record_from}
use Rattle.apex_recall.specs.Terms.{Attributes, Record}

-- the bytes of the first two words of a process
abbrev bytes_of : Record → List ℕ
bytes_of r =
    r.core ∷ r.base ∷ flag_word r.started ∷ suspender_byte r.suspended
    ∷ (code_of r.wait).kind ∷ (code_of r.wait).place ∷ r.step ∷ 0 ∷ []

abbrev marks_of : Bool → Record → List ℕ
marks_of created r =
    flag_word created ∷ flag_word (is_some r.due) ∷ flag_word (is_some r.deadline)
    ∷ 0 ∷ 0 ∷ 0 ∷ 0 ∷ 0 ∷ []

bytes_same : (r : Record) → RecordFits r → to_le_bytes w64 (byte_word r) ≡ bytes_of r
bytes_same r bounds =
    let core : r.core < 256 = omega (arith, bounds.core) in
    let none : 0 < 256 = omega arith in
    bytes_back (bytes_of r) refl (
      core,
      (
        bounds.base,
        (
          flag_small r.started,
          (
            suspender_small r.suspended,
            (kind_small r.wait, (place_small r.wait bounds.waits, (bounds.step, (none, tt)))),
          ),
        ),
      ),
    )

marks_same : (created : Bool) (r : Record)
    → to_le_bytes w64 (mark_word created r) ≡ marks_of created r
marks_same created r =
    let none : 0 < 256 = omega arith in
    bytes_back (marks_of created r) refl (
      flag_small created,
      (
        flag_small (is_some r.due),
        (
          flag_small (is_some r.deadline),
          (none, (none, (none, (none, (none, tt))))),
        ),
      ),
    )

-- its first byte is its core
pub core_back : (created : Bool) (r : Record) → RecordFits r
    → IsCoreWord (slice_index (record_words created r) 0)
core_back created r bounds =
    subst (λ (core : ℕ). core < MOST_CORES)
    (sym (ap (λ (bytes : List ℕ). slice_index bytes 0) (bytes_same r bounds))) bounds.core

pub created_back : (created : Bool) (r : Record)
    → is_created_in (record_words created r) ≡ created
created_back created r =
    ap (λ (bytes : List ℕ). slice_index bytes 0 == 1) (marks_same created r) ∙ flag_back created

pub record_back : (attributes : Attributes) (created : Bool) (r : Record)
    → attributes ≡ r.attributes → RecordFits r → (stamp : ℕ) → r.since ≡ pos stamp
    → r.inbox ≡ None → record_from attributes (record_words created r) ≡ r
record_back attributes created r is_of bounds stamp is_stamp is_empty =
    sym (record_of_parts attributes (bytes_of r) (marks_of created r) (record_words created r) r.core r.suspended
    r.wait r.since r.due r.deadline r.owned refl (sym (suspender_back r.suspended))
    (sym (wait_back r.wait bounds.waits))
    (is_stamp ∙ ap (λ s. pos (stamp_word s)) (sym is_stamp)) (sym (instant_back r.due))
    (sym (instant_back r.deadline))
    (sym (holdings_back r.owned bounds.owned 4 ∙ take_all 4 r.owned bounds.few))
    (sym (bytes_same r bounds)) (sym (marks_same created r)))
    ∙ ap (λ (b : Bool). record r { attributes = attributes; started = b; inbox = None })
    (flag_back r.started)
    ∙ ap (λ (a : Attributes). record r { attributes = a; inbox = None }) is_of
    ∙ ap (λ i. record r { inbox = i }) (sym is_empty)

pub semaphore_back : (s : SemaphoreObject) → s.value < 2 ^ 16
    → semaphore_from s (semaphore_words s) ≡ s
semaphore_back s few =
    let same : s.value % 2 ^ 16 ≡ s.value = omega arith in
    ap (λ (b : Bool). record s { created = b; value = s.value % 2 ^ 16 }) (flag_back s.created)
    ∙ ap (λ (v : ℕ). record s { value = v }) same

pub buffer_back : (b : BufferObject) → length b.messages ≤ 16 → MessagesFit b.messages
    → buffer_from b (buffer_words b) ≡ b
buffer_back b few fits =
    ap (λ (c : Bool). record (buffer_from b (buffer_words b)) { created = c }) (flag_back b.created)
    ∙ ap (λ m. record b { messages = m })
    (messages_back b.messages fits 16 ∙ take_all 16 b.messages few)

pub blackboard_back : (b : BlackboardObject) → ShownFits b.message
    → blackboard_from b (blackboard_words b) ≡ b
blackboard_back b fits =
    ap (λ (c : Bool). record (blackboard_from b (blackboard_words b)) { created = c })
    (flag_back b.created)
    ∙ ap (λ m. record b { message = m }) (message_back b.message fits)

pub event_flag_back : (e : EventFlagObject) → event_flag_from (event_flag_words e) ≡ e
event_flag_back e =
    ap (λ (c : Bool). record (event_flag_from (event_flag_words e)) { created = c })
    (flag_back e.created)
    ∙ ap (λ (u : Bool). record e { up = u }) (flag_back e.up)

pub mutex_back : (m : MutexObject) → mutex_from (mutex_words m) ≡ m
mutex_back m = ap (λ (c : Bool). record m { created = c }) (flag_back m.created)
