-- Objects, copied one after the other.
use Rattle.std.proofs.Common.{◌≡◌, ℕ, ◌+◌, ◌<◌, ◌≤◌, List, [], length, Option, get_or, refl, sym, ◌∙◌, ap, subst, arith, inl, inr}
use Rattle.std.proofs.lemmas.Bool.{cases_lt, le-ltb, lt-ltb}
use Rattle.std.proofs.lemmas.List.{ext_get_or}
use Rattle.apex_machine.specs.Deeds.{Objects}
use Rattle.apex_machine.specs.Machine.{objects_after}
use Rattle.apex_machine.specs.services.BufferServices.{BufferObject, buffer_kind}
use Rattle.apex_machine.specs.table.Table.{Table}
use Rattle.apex_recall.proofs.Places.{length-processes}
use Rattle.apex_recall.specs.Copied.{AreOfKinds, AreSameBuffers, works_before}
use Rattle.apex_recall.specs.Restored.{objects_in, records_from, works_in}
use Rattle.apex_recall.specs.Terms.{OpenWork}
use Rattle.apex_types.proofs.Places.{get_or-map_places, length-map_places}
use Rattle.apex_types.specs.Places.{map_places}

-- a number of each buffer that stays
stays : (of : BufferObject → ℕ) (made : ℕ → BufferObject → BufferObject) → ((k : ℕ) (b : BufferObject) → of (made k b) ≡ of b)
    → (bs : List BufferObject) (p : ℕ) (b : BufferObject) → p < length bs → of (get_or bs p b) ≡ of (get_or (map_places made 0 bs) p b)
stays of made same bs p b within =
    sym (ap of (get_or-map_places made 0 bs p b b within) ∙ same (0 + p) (get_or bs p b))

-- objects that are restored of words differ from those of the table in their values alone
pub of_kinds : (table : Table) (words : List ℕ) (o k : Objects)
    → ((ws : List ℕ) → objects_in table o ws ≡ objects_in table (objects_after table []) ws)
    → k ≡ objects_in table (objects_after table []) words → AreOfKinds o k
of_kinds table words o k of is =
    subst (AreOfKinds o) (of words ∙ sym is) (record {
      processes = sym (length-processes (length o.processes) words (records_from table));
      semaphores = sym (length-map_places _ 0 o.semaphores);
      buffers = record {
        many = sym (length-map_places _ 0 o.buffers);
        longest = λ p b within. stays (λ x. x.longest) _ (λ k x. refl) o.buffers p b within;
        capacity = λ p b within. stays (λ x. x.capacity) _ (λ k x. refl) o.buffers p b within;
      };
      blackboards = sym (length-map_places _ 0 o.blackboards);
      event_flags = sym (length-map_places _ 0 o.event_flags);
      mutexes = sym (length-map_places _ 0 o.mutexes);
    })

-- the buffers before a place are as the others, and the rest are as they were
pub record IsCopying (old others now : List BufferObject) (place : ℕ) : Type 0 where
  pub many : length now ≡ length old
  pub done : (p : ℕ) (b : BufferObject) → p < place → get_or now p b ≡ get_or others p b
  pub left : (p : ℕ) (b : BufferObject) → place ≤ p → get_or now p b ≡ get_or old p b

pub copying_ends : (old others now : List BufferObject) (place : ℕ) → AreSameBuffers old others → IsCopying old others now place
    → length now ≤ place → now ≡ others
copying_ends old others now place same copying all =
    ext_get_or buffer_kind.absent now others (copying.many ∙ same.many)
    (λ p within. copying.done p buffer_kind.absent (omega (arith, within, all)))

-- works that are those of the words are so among the first cores
pub works_kept : (cores many : ℕ) (words : List ℕ) (known : ℕ → Option OpenWork) (core : ℕ) → cores ≤ many
    → known core ≡ works_in cores words core → works_before many known core ≡ works_in cores words core
works_kept cores many words known core within same = elim (cases_lt core many) [
  | inl below ↦ rw (lt-ltb core many below) same
  | inr above ↦ rw (le-ltb core many above, le-ltb core cores (omega (arith, above, within))) refl
]
