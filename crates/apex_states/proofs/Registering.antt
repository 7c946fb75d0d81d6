-- Rows, each once, to which one is added.
use Rattle.std.proofs.Common.{◌≡◌, ◌≢◌, ℕ, zero, suc, ◌+◌, ◌^◌, ◌<◌, ◌≤◌, List, [], ◌∷◌, ◌++◌, length, length-append, take, Option, Some, sym, ap, ◌∙◌, subst, arith, inl, inr, get_or}
use Rattle.std.proofs.lemmas.List.{length-map, length-take-le, take_all}
use Rattle.std.proofs.lemmas.Option.{slice_get-get_or, slice_get_within}
use Rattle.std.specs.List.{slice_get, slice_set, AllPairs}
use Rattle.std.specs.Vec.{vec_capacity}
use Rattle.apex_states.specs.Index.{cells_of, place_in, IsIndexed, IsKnown, IsStart, IsVacant}
use Rattle.apex_states.specs.declared.index.Index.{Index}
use Rattle.apex_states.specs.Registers.{AreApart, IsEntered, IsGrown, IsRegistered}
use Rattle.apex_states.specs.Rows.{Packed}
use Rattle.apex_states.specs.declared.registers.Entered.{Entered}
use Rattle.apex_states.specs.declared.registers.Entered.TheVariants.{Known, New, Full}
use Rattle.apex_states.proofs.Probing.{last_or_before, length_set, IsIndexed-enter, IsIndexed-start, IsOpen-vacant}

-- a new row is apart from the others
pub AreApart-push : (rows : List (List ℕ)) (n : List ℕ) → AreApart rows → (IsKnown rows n → ⊥) → AreApart (rows ++ n ∷ [])
AreApart-push rows n apart new first second k one other =
    elim (last_or_before rows n first k one) [
      | inl there ↦ elim (last_or_before rows n second k other) [
        | inl here ↦ apart first second k there here
        | inr last ↦ absurd (new (first, there ∙ ap Some (sym last.1)))
      ]
      | inr last ↦ elim (last_or_before rows n second k other) [
        | inl here ↦ absurd (new (second, here ∙ ap Some (sym last.1)))
        | inr again ↦ last.0 ∙ sym again.0
      ]
    ]

pub AllPairs-from_apart : (rows : List (List ℕ)) → AreApart rows → AllPairs (λ a b. a ≢ b) rows
AllPairs-from_apart rows apart = λ i j d before within same.
    let one : slice_get rows i ≡ Some (get_or rows i d) = slice_get-get_or rows i d (omega arith) in
    let other : slice_get rows j ≡ Some (get_or rows j d) = slice_get-get_or rows j d within in
    let e : i ≡ j = apart i j (get_or rows i d) one (other ∙ ap Some (sym same)) in
    omega arith

pub IsRegistered-start : (width room : ℕ) (rows : Packed) (index : Index)
    → rows ≡ record { width = width; room = room; rows = [] }
    → IsStart index room
    → room < 2 ^ 32
    → IsRegistered rows (cells_of index) (vec_capacity index.slots)
IsRegistered-start width room rows index rows_is start few = rw rows_is (started) where
  started : IsRegistered (record { width = width; room = room; rows = [] }) (cells_of index) (vec_capacity index.slots)
  started = record {
    apart = λ i j k one other. cc;
    indexed = rw (start.vacant) (IsIndexed-start (length index.slots.items));
    vacant = omega (arith, start.some, length-map index.slots.items place_in);
    enough = start.memory;
    within = omega arith;
    few = few;
  }

-- the rows stay, and their places are put into other cells
pub IsRegistered-filled : (rows : Packed) (cells cells' : List (Option ℕ)) (memory memory' : ℕ)
    → IsRegistered rows cells memory
    → IsIndexed cells' rows.rows
    → length rows.rows < length cells'
    → memory ≤ memory'
    → IsRegistered rows cells' memory'
IsRegistered-filled rows cells cells' memory memory' old indexed vacant more = record {
  apart = old.apart;
  indexed = indexed;
  vacant = vacant;
  enough = omega (arith, old.enough);
  within = old.within;
  few = old.few;
}

pub IsRegistered-enter : (rows : Packed) (cells : List (Option ℕ)) (memory : ℕ) (k : List ℕ) (slot : ℕ) (rows' : Packed) (cells' : List (Option ℕ)) (memory' : ℕ)
    → IsRegistered rows cells memory
    → IsVacant cells rows.rows k slot
    → length rows.rows < rows.room
    → length rows.rows + 1 < length cells
    → rows' ≡ record rows { rows = rows.rows ++ k ∷ [] }
    → cells' ≡ slice_set cells slot (Some (length rows.rows))
    → memory' ≡ memory
    → IsRegistered rows' cells' memory'
IsRegistered-enter rows cells memory k slot rows' cells' memory' old vacant room wide rows_is cells_is memory_is = rw (rows_is, cells_is, memory_is) (entered) where
  entered : IsRegistered (record rows { rows = rows.rows ++ k ∷ [] }) (slice_set cells slot (Some (length rows.rows))) memory
  entered = record {
    apart = AreApart-push rows.rows k old.apart vacant.new;
    indexed = IsIndexed-enter cells rows.rows k slot old.indexed (IsOpen-vacant cells rows.rows k slot vacant);
    vacant = omega (arith, length_set cells slot (Some (length rows.rows)), length-append rows.rows (k ∷ []));
    enough = old.enough;
    within = omega (arith, length-append rows.rows (k ∷ []));
    few = old.few;
  }

-- The rows entered one after the other.

get_take : (n : ℕ) (rows : List (List ℕ)) (i : ℕ) (k : List ℕ) → slice_get (take n rows) i ≡ Some k → (i < n) × (slice_get rows i ≡ Some k)
get_take zero rows i k is = cc
get_take (suc n) [] i k is = cc
get_take (suc n) (row ∷ rows) zero k is = (omega arith, is)
get_take (suc n) (row ∷ rows) (suc i) k is = let deeper = get_take n rows i k is in (omega (arith, deeper.0), deeper.1)

pub take_next : (n : ℕ) (rows : List (List ℕ)) (k : List ℕ) → slice_get rows n ≡ Some k → take (suc n) rows ≡ take n rows ++ k ∷ []
take_next zero [] k is = cc
take_next zero (row ∷ rows) k is = cc
take_next (suc n) [] k is = cc
take_next (suc n) (row ∷ rows) k is = ap (λ rs. row ∷ rs) (take_next n rows k is)

-- so far the first rows are entered
pub record IsCopying (rows : List (List ℕ)) (width room place : ℕ) (new : Packed) : Type 0 where
  pub rows_are : new.rows ≡ take place rows
  pub width_is : new.width ≡ width
  pub room_is : new.room ≡ room

pub IsCopying-next : (rows : List (List ℕ)) (width room place : ℕ) (k : List ℕ) (old : Packed) (entered : Entered) (new : Packed)
    → AreApart rows
    → length rows < room
    → slice_get rows place ≡ Some k
    → IsCopying rows width room place old
    → IsEntered old k entered new
    → IsCopying rows width room (place + 1) new
IsCopying-next rows width room place k old (Known number) new apart fits here copying is =
    let there : slice_get (take place rows) number ≡ Some k = sym (ap (λ rs. slice_get rs number) copying.rows_are) ∙ is.0 in
    let taken = get_take place rows number k there in
    let e : number ≡ place = apart number place k taken.1 here in
    absurd (omega (arith, taken.0))
IsCopying-next rows width room place k old (New number) new apart fits here copying is =
    let next : suc place ≡ place + 1 = omega arith in
    let Rows : ℕ → Type 0 = λ n. new.rows ≡ take n rows in
    let more : new.rows ≡ take (suc place) rows = ap (λ (p : Packed). p.rows) is.3 ∙ (ap (λ rs. rs ++ k ∷ []) copying.rows_are ∙ sym (take_next place rows k here)) in
    record {
      rows_are = subst Rows next more;
      width_is = ap (λ (p : Packed). p.width) is.3 ∙ copying.width_is;
      room_is = ap (λ (p : Packed). p.room) is.3 ∙ copying.room_is;
    }
IsCopying-next rows width room place k old Full new apart fits here copying is =
    let within : place < length rows = slice_get_within rows place k here in
    let long : length (take place rows) ≡ place = length-take-le place rows (omega arith) in
    let count : length old.rows ≡ place = ap length copying.rows_are ∙ long in
    absurd (omega (arith, is.1, copying.room_is))

pub IsGrown-done : (old : Packed) (room place : ℕ) (new : Packed) → length old.rows ≤ place → length old.rows < room → IsCopying old.rows old.width room place new → IsGrown old new
IsGrown-done old room place new past fits copying =
    let all : new.rows ≡ old.rows = copying.rows_are ∙ take_all place old.rows past in
    record {
      rows = all;
      width = copying.width_is;
      room = omega (arith, ap length all, copying.room_is);
    }
