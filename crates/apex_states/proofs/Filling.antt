-- The slots into which the places of rows are put one after the other.
use Rattle.std.proofs.Common.{◌≡◌, ℕ, suc, ◌+◌, ◌<◌, ◌≤◌, List, [], ◌∷◌, ◌++◌, length, map, replicate, take, Some, sym, ap, ◌∙◌, subst, arith}
use Rattle.std.proofs.lemmas.List.{length-map, length-replicate, length-take-le, take_all}
use Rattle.std.proofs.lemmas.Option.{slice_get_within}
use Rattle.std.specs.List.{slice_get, slice_set}
use Rattle.apex_states.specs.Index.{place_in, taken_in, IsIndexed, IsOpen}
use Rattle.apex_states.specs.declared.index.Slot.{Slot}
use Rattle.apex_states.proofs.Probing.{length_set, map_vacant, IsIndexed-enter, IsIndexed-start}
use Rattle.apex_states.proofs.Registering.{take_next}

-- the places of the first rows are in the slots
pub record IsFilling (rows : List (List ℕ)) (size least place : ℕ) (slots : List Slot) (memory : ℕ) : Type 0 where
  pub indexed : IsIndexed (map place_in slots) (take place rows)
  pub size_is : length slots ≡ size
  pub enough : least ≤ memory

pub IsFilling-start : (rows : List (List ℕ)) (size least : ℕ) (slots : List Slot) (memory : ℕ)
    → slots ≡ replicate size (record { code = 0 })
    → least ≤ memory
    → IsFilling rows size least 0 slots memory
IsFilling-start rows size least slots memory is enough = record {
  indexed = rw (map_vacant size slots is) (IsIndexed-start size);
  size_is = ap length is ∙ length-replicate size (record { code = 0 });
  enough = enough;
}

pub IsFilling-next : (rows : List (List ℕ)) (size least place : ℕ) (k : List ℕ) (slot : ℕ) (slots slots' : List Slot) (memory memory' : ℕ)
    → slice_get rows place ≡ Some k
    → IsFilling rows size least place slots memory
    → IsOpen (map place_in slots) k slot
    → map place_in slots' ≡ slice_set (map place_in slots) slot (Some place)
    → memory' ≡ memory
    → IsFilling rows size least (place + 1) slots' memory'
IsFilling-next rows size least place k slot slots slots' memory memory' here filling opened cells_is memory_is =
    let within : place < length rows = slice_get_within rows place k here in
    let long : length (take place rows) ≡ place = length-take-le place rows (omega arith) in
    let next : suc place ≡ place + 1 = omega arith in
    let entered = IsIndexed-enter (map place_in slots) (take place rows) k slot filling.indexed opened in
    let Placed : ℕ → Type 0 = λ n. IsIndexed (slice_set (map place_in slots) slot (Some n)) (take place rows ++ k ∷ []) in
    let placed : Placed place = subst Placed long entered in
    let Taken : ℕ → Type 0 = λ n. IsIndexed (map place_in slots') (take n rows) in
    let same : length slots' ≡ length slots = sym (length-map slots' place_in) ∙ (ap length cells_is ∙ (length_set (map place_in slots) slot (Some place) ∙ length-map slots place_in)) in
    record {
      indexed = subst Taken next (rw (cells_is, take_next place rows k here) placed);
      size_is = same ∙ filling.size_is;
      enough = omega (arith, filling.enough);
    }

-- there is a slot for one row more
pub IsFilling-few : (rows : List (List ℕ)) (size least place : ℕ) (slots : List Slot) (memory : ℕ)
    → place < length rows
    → length rows < size
    → IsFilling rows size least place slots memory
    → taken_in (map place_in slots) < length slots
IsFilling-few rows size least place slots memory within fewer filling =
    let long : length (take place rows) ≡ place = length-take-le place rows (omega arith) in
    omega (arith, filling.indexed.taken, filling.size_is)

pub IsFilling-done : (rows : List (List ℕ)) (size least place : ℕ) (slots : List Slot) (memory : ℕ)
    → length rows ≤ place
    → IsFilling rows size least place slots memory
    → IsIndexed (map place_in slots) rows
IsFilling-done rows size least place slots memory past filling =
    let All : List (List ℕ) → Type 0 = λ rs. IsIndexed (map place_in slots) rs in
    subst All (take_all place rows past) filling.indexed
