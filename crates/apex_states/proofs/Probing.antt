-- The search for a state over the cells of the index.
use Rattle.std.proofs.Common.{◌≡◌, ◌≢◌, ℕ, zero, suc, ◌+◌, ◌-◌, ◌*◌, ◌/◌, ◌^◌, ◌<◌, ◌≤◌, ◌⊎◌, List, [], ◌∷◌, ◌++◌, drop, length, map, replicate, Some, None, Option, refl, sym, ap, ◌∙◌, subst, arith, add-one, inl, inr, length-append, slice_index_or}
use Rattle.std.proofs.lemmas.Bool.{cases_lt, lt-ltb, le-ltb}
use Rattle.std.proofs.lemmas.Option.{same_Some, slice_get-map, slice_get_read}
use Rattle.std.proofs.lemmas.List.{length-map}
use Rattle.std.proofs.lemmas.Nat.{mul-le}
use Rattle.std.specs.List.{fold, slice_get, slice_set}
use Rattle.std.specs.Option.{option_map}
use Rattle.apex_states.specs.declared.index.Slot.{Slot}
use Rattle.apex_states.specs.Index.{after, cell_after, hash_of, hashed, home_of, mixed, place_in, taken_in, IsFound, IsIndexed, IsKnown, IsOpen, IsOther, IsVacant}

-- How many cells are taken.

none_taken : (n : ℕ) → taken_in (replicate {A = Option ℕ} n None) ≡ 0
none_taken zero = refl
none_taken (suc n) = none_taken n

all_taken : (cells : List (Option ℕ)) → ((i : ℕ) → i < length cells → (p : ℕ) × (slice_get cells i ≡ Some (Some p))) → taken_in cells ≡ length cells
all_taken [] each = refl
all_taken (None ∷ cells) each = let first = each 0 (omega arith) in cc
all_taken (Some p ∷ cells) each =
    ap suc (all_taken cells (λ i below. each (suc i) (omega arith)))

one_more_taken : (cells : List (Option ℕ)) (cell place : ℕ) → slice_get cells cell ≡ Some None → taken_in (slice_set cells cell (Some place)) ≡ taken_in cells + 1
one_more_taken [] cell place free = cc
one_more_taken (None ∷ cells) zero place free = sym (add-one (taken_in cells))
one_more_taken (Some p ∷ cells) zero place free = cc
one_more_taken (None ∷ cells) (suc cell) place free = one_more_taken cells cell place free
one_more_taken (Some p ∷ cells) (suc cell) place free =
    let more : suc (taken_in cells + 1) ≡ suc (taken_in cells) + 1 = omega arith in
    ap suc (one_more_taken cells cell place free) ∙ more

-- A cell that is set.

get_set : (cells : List (Option ℕ)) (cell : ℕ) (x y : Option ℕ) → slice_get cells cell ≡ Some x → slice_get (slice_set cells cell y) cell ≡ Some y
get_set [] cell x y is = cc
get_set (z ∷ cells) zero x y is = refl
get_set (z ∷ cells) (suc cell) x y is = get_set cells cell x y is

-- a taken cell keeps its place when a free one is set
get_beside : (cells : List (Option ℕ)) (cell other p : ℕ) (y : Option ℕ) → slice_get cells cell ≡ Some None → slice_get cells other ≡ Some (Some p) → slice_get (slice_set cells cell y) other ≡ Some (Some p)
get_beside [] cell other p y free is = cc
get_beside (z ∷ cells) zero zero p y free is = cc
get_beside (z ∷ cells) zero (suc other) p y free is = is
get_beside (z ∷ cells) (suc cell) zero p y free is = is
get_beside (z ∷ cells) (suc cell) (suc other) p y free is = get_beside cells cell other p y free is

-- what is read after a cell was set is what was set, or was there before
get_after : (cells : List (Option ℕ)) (cell other : ℕ) (x y : Option ℕ) → slice_get (slice_set cells cell y) other ≡ Some x → (x ≡ y) ⊎ (slice_get cells other ≡ Some x)
get_after [] cell other x y is = inr is
get_after (z ∷ cells) zero zero x y is = inl (cc)
get_after (z ∷ cells) zero (suc other) x y is = inr is
get_after (z ∷ cells) (suc cell) zero x y is = inr is
get_after (z ∷ cells) (suc cell) (suc other) x y is = get_after cells cell other x y is

pub length_set : (cells : List (Option ℕ)) (cell : ℕ) (y : Option ℕ) → length (slice_set cells cell y) ≡ length cells
length_set [] cell y = refl
length_set (z ∷ cells) zero y = refl
length_set (z ∷ cells) (suc cell) y = ap suc (length_set cells cell y)

-- The way from a home.

pub after_below : (size slot steps : ℕ) → slot < size → steps < size → after size slot steps < size
after_below size slot steps below short =
    elim (cases_lt steps (size - slot)) [
      | inl lt ↦ rw (lt-ltb steps (size - slot) lt) (omega arith)
      | inr ge ↦ rw (le-ltb steps (size - slot) ge) (omega arith)
    ]

-- the way comes to each cell
after_onto : (size slot cell : ℕ) → slot < size → cell < size → (steps : ℕ) × (steps < size) × (after size slot steps ≡ cell)
after_onto size slot cell below within =
    elim (cases_lt cell slot) [
      | inl lt ↦
          let past : size - slot ≤ cell + (size - slot) = omega arith in
          (cell + (size - slot), omega arith, rw (le-ltb (cell + (size - slot)) (size - slot) past) (omega arith))
      | inr ge ↦
          let short : cell - slot < size - slot = omega arith in
          (cell - slot, omega arith, rw (lt-ltb (cell - slot) (size - slot) short) (omega arith))
    ]

pub fold_below : (k : List ℕ) (hash : ℕ) → hash < 2 ^ 64 → fold mixed hash k < 2 ^ 64
fold_below [] hash below = below
fold_below (word ∷ k) hash below = fold_below k (mixed hash word) (omega arith)

pub fours_below : (words : List ℕ) (fours : ℕ) → hashed words fours < 2 ^ 64
fours_below words zero = omega arith
fours_below words (suc fours) = omega arith

pub hash_below : (words : List ℕ) → hash_of words < 2 ^ 64
hash_below words = fold_below (drop (4 * (length words / 4)) words) (hashed words (length words / 4)) (fours_below words (length words / 4))

-- a part of the slots
pub share_below : (hash size : ℕ) → hash < 2 ^ 64 → 0 < size → hash * size / 2 ^ 64 < size
share_below hash size below positive =
    let most = mul-le hash size 18446744073709551615 size (omega (arith, below)) (omega arith) in
    omega (arith, most, positive)

pub home_below : (size : ℕ) (k : List ℕ) → 0 < size → home_of size k < size
unfolding home_of
home_below size k positive = share_below (hash_of k) size (hash_below k) positive

pub slot_below : (size home steps slot : ℕ) (k : List ℕ) → 0 < size → home ≡ home_of size k → steps < size → slot ≡ after size home steps → slot < size
slot_below size home steps slot k positive home_is short slot_is =
    rw (slot_is, home_is) (after_below size (home_of size k) steps (home_below size k positive) short)

-- What the index keeps.

pub IsIndexed-start : (n : ℕ) → IsIndexed (replicate n None) []
IsIndexed-start n = record { found = λ place k is. cc; known = none n; taken = none_taken n }
  where
    none : (n cell place : ℕ) → slice_get (replicate {A = Option ℕ} n None) cell ≡ Some (Some place) → place < 0
    none zero cell place is = cc
    none (suc n) zero place is = cc
    none (suc n) (suc cell) place is = none n cell place is

-- a state that the way does not come to before a free cell is none of the states
pub not_known : (cells : List (Option ℕ)) (states : List (List ℕ)) (k : List ℕ) (steps : ℕ)
    → IsIndexed cells states
    → slice_get cells (cell_after cells k steps) ≡ Some None
    → ((i : ℕ) → i < steps → IsOther cells states k (cell_after cells k i))
    → IsKnown states k → ⊥
not_known cells states k steps indexed free way (place, is) =
    let found = indexed.found place k is in
    elim (cases_lt found.steps steps) [
      | inl lt ↦
          let other = way found.steps lt in
          let same : Some (Some other.place) ≡ Some (Some place) = sym other.here ∙ found.here in
          let e : other.place ≡ place = cc in
          let there : slice_get states place ≡ Some other.other = rw e at other.there in
          let k_is : Some other.other ≡ Some k = sym there ∙ is in
          other.differs (same_Some other.other k k_is)
      | inr ge ↦ elim (cases_lt steps found.steps) [
        | inl more ↦ let (taken, there) = found.way steps more in let clash : Some (Some taken) ≡ Some None = sym there ∙ free in cc
        | inr le ↦
            let e : found.steps ≡ steps = omega arith in
            let here : slice_get cells (cell_after cells k steps) ≡ Some (Some place) = rw e at found.here in
            let clash : Some (Some place) ≡ Some None = sym here ∙ free in cc
      ]
    ]

-- where fewer cells are taken than there are, the way comes to a free one
pub way_ends : (cells : List (Option ℕ)) (k : List ℕ)
    → taken_in cells < length cells
    → ((i : ℕ) → i < length cells → (p : ℕ) × (slice_get cells (cell_after cells k i) ≡ Some (Some p)))
    → ⊥
way_ends cells k fewer way =
    let home = home_below (length cells) k (omega arith) in
    let each : (cell : ℕ) → cell < length cells → (p : ℕ) × (slice_get cells cell ≡ Some (Some p)) = λ cell below.
    let at = after_onto (length cells) (home_of (length cells) k) cell home below in
    let taken = way at.0 at.1 in
    let here : slice_get cells cell ≡ Some (Some taken.0) = rw at.2 at taken.1 in
    (taken.0, here)
    in
    omega (arith, all_taken cells each)

-- where fewer states than cells are indexed, some cell is free
pub some_free : (cells : List (Option ℕ)) (states : List (List ℕ)) (k : List ℕ)
    → IsIndexed cells states
    → length states < length cells
    → ((i : ℕ) → i < length cells → IsOther cells states k (cell_after cells k i))
    → ⊥
some_free cells states k indexed fewer way =
    way_ends cells k (omega (arith, indexed.taken)) (λ i lt. let other = way i lt in (other.place, other.here))

-- the cell of a new state is open for it
pub IsOpen-vacant : (cells : List (Option ℕ)) (states : List (List ℕ)) (k : List ℕ) (cell : ℕ) → IsVacant cells states k cell → IsOpen cells k cell
IsOpen-vacant cells states k cell vacant = record {
  steps = vacant.steps;
  short = vacant.short;
  is = vacant.is;
  free = vacant.free;
  way = λ i lt. let other = vacant.way i lt in (other.place, other.here);
}

-- cells that keep all that is taken keep what is found
IsFound-carry : (cells cells' : List (Option ℕ)) (k : List ℕ) (place : ℕ)
    → length cells' ≡ length cells
    → ((cell p : ℕ) → slice_get cells cell ≡ Some (Some p) → slice_get cells' cell ≡ Some (Some p))
    → IsFound cells k place → IsFound cells' k place
IsFound-carry cells cells' k place e keeps found = record {
  steps = found.steps;
  short = omega (arith, found.short);
  way = λ i lt. let taken = found.way i lt in (taken.0, rw e (keeps (cell_after cells k i) taken.0 taken.1));
  here = rw e (keeps (cell_after cells k found.steps) place found.here);
}

IsFound-new : (cells cells' : List (Option ℕ)) (k : List ℕ) (place steps : ℕ)
    → length cells' ≡ length cells
    → steps < length cells
    → ((i : ℕ) → i < steps → (p : ℕ) × (slice_get cells' (cell_after cells k i) ≡ Some (Some p)))
    → slice_get cells' (cell_after cells k steps) ≡ Some (Some place)
    → IsFound cells' k place
IsFound-new cells cells' k place steps e short way here = record {
  steps = steps;
  short = omega arith;
  way = λ i lt. let taken = way i lt in (taken.0, rw e taken.1);
  here = rw e here;
}

-- a state behind others is one of these or the last
pub last_or_before : {X : Type 0} (states : List X) (k : X) (place : ℕ) (other : X) → slice_get (states ++ k ∷ []) place ≡ Some other → (slice_get states place ≡ Some other) ⊎ ((place ≡ length states) × (k ≡ other))
last_or_before [] k zero other is = inr (refl, same_Some k other is)
last_or_before [] k (suc place) other is = cc
last_or_before (s ∷ states) k zero other is = inl is
last_or_before (s ∷ states) k (suc place) other is =
    elim (last_or_before states k place other is) [
      | inl before ↦ inl before
      | inr last ↦ inr (ap suc last.0, last.1)
    ]

-- a state is put into the cell to which the way from its home comes
pub IsIndexed-enter : (cells : List (Option ℕ)) (states : List (List ℕ)) (k : List ℕ) (cell : ℕ)
    → IsIndexed cells states
    → IsOpen cells k cell
    → IsIndexed (slice_set cells cell (Some (length states))) (states ++ k ∷ [])
IsIndexed-enter cells states k cell indexed vacant =
    let n : ℕ = length states in
    let cells' : List (Option ℕ) = slice_set cells cell (Some n) in
    let long : length cells' ≡ length cells = length_set cells cell (Some n) in
    let keeps = λ (other p : ℕ) (is : slice_get cells other ≡ Some (Some p)). get_beside cells cell other p (Some n) vacant.free is in
    let At : ℕ → Type 0 = λ c. slice_get (slice_set cells cell (Some n)) c ≡ Some (Some n) in
    let here = subst At vacant.is (get_set cells cell None (Some n) vacant.free) in
    let newest = IsFound-new cells cells' k n vacant.steps long vacant.short (λ i lt. let o = vacant.way i lt in (o.0, keeps (cell_after cells k i) o.0 o.1)) here in
    record {
      found = λ place other is.
          elim (last_or_before states k place other is) [
            | inl before ↦ IsFound-carry cells cells' other place long keeps (indexed.found place other before)
            | inr last ↦
                let P : ℕ → Type 0 = λ p. IsFound cells' other p in
                let Q : List ℕ → Type 0 = λ q. IsFound cells' q n in
                subst P (sym last.0) (subst Q last.1 newest)
          ];
      known = λ other place is.
          elim (get_after cells cell other (Some place) (Some n) is) [
            | inl new ↦ let e : place ≡ n = cc in omega (arith, length-append states (k ∷ []))
            | inr old ↦ omega (arith, indexed.known other place old, length-append states (k ∷ []))
          ];
      taken = omega (arith, one_more_taken cells cell n vacant.free, indexed.taken, length-append states (k ∷ []));
    }

pub map_vacant : (n : ℕ) (slots : List Slot) → slots ≡ replicate n (record { code = 0 }) → map place_in slots ≡ replicate n None
map_vacant n slots e = rw e (vacant n)
  where
    vacant : (n : ℕ) → map place_in (replicate n (record { code = 0 })) ≡ replicate n None
    vacant zero = refl
    vacant (suc n) = ap (λ cells. None ∷ cells) (vacant n)

-- the cell of a slot that was read
pub cell_of : (slots : List Slot) (slot : ℕ) (read : Slot) (place : Option ℕ) → slot < length slots
    → read ≡ slice_index_or slots slot read → place_in read ≡ place
    → slice_get (map place_in slots) slot ≡ Some place
cell_of slots slot read place below is has =
    slice_get-map place_in slots slot
    ∙ (ap (option_map place_in) (slice_get_read slots (length slots) slot read refl below is) ∙ ap Some has)

-- A turn of the search for a state, over the slots.

pub vacant_at : (slots : List Slot) (states : List (List ℕ)) (k : List ℕ) (size home steps slot : ℕ) (read : Slot)
    → IsIndexed (map place_in slots) states
    → size ≡ length slots
    → home ≡ home_of size k
    → steps < size
    → slot ≡ after size home steps
    → slot < length slots
    → read ≡ slice_index_or slots slot read
    → place_in read ≡ None
    → ((i : ℕ) → i < steps → IsOther (map place_in slots) states k (cell_after (map place_in slots) k i))
    → IsVacant (map place_in slots) states k slot
vacant_at slots states k size home steps slot read indexed size_is home_is short slot_is below is_read free way =
    let long : length (map place_in slots) ≡ size = length-map slots place_in ∙ sym size_is in
    let at : slot ≡ cell_after (map place_in slots) k steps = rw (long, ← home_is) slot_is in
    let is : slice_get (map place_in slots) slot ≡ Some None = cell_of slots slot read None below is_read free in
    record {
      steps = steps;
      short = omega arith;
      is = at;
      free = is;
      way = way;
      new = not_known (map place_in slots) states k steps indexed (rw (← at) is) way;
    }

pub open_at : (slots : List Slot) (k : List ℕ) (size home steps slot : ℕ) (read : Slot)
    → size ≡ length slots
    → home ≡ home_of size k
    → steps < size
    → slot ≡ after size home steps
    → slot < length slots
    → read ≡ slice_index_or slots slot read
    → place_in read ≡ None
    → ((i : ℕ) → i < steps → (p : ℕ) × (slice_get (map place_in slots) (cell_after (map place_in slots) k i) ≡ Some (Some p)))
    → IsOpen (map place_in slots) k slot
open_at slots k size home steps slot read size_is home_is short slot_is below is_read free way =
    let long : length (map place_in slots) ≡ size = length-map slots place_in ∙ sym size_is in
    record {
      steps = steps;
      short = omega arith;
      is = rw (long, ← home_is) slot_is;
      free = cell_of slots slot read None below is_read free;
      way = way;
    }

pub taken_at : (slots : List Slot) (k : List ℕ) (size home steps slot place : ℕ) (read : Slot)
    → size ≡ length slots
    → home ≡ home_of size k
    → slot ≡ after size home steps
    → slot < length slots
    → read ≡ slice_index_or slots slot read
    → place_in read ≡ Some place
    → ((i : ℕ) → i < steps → (p : ℕ) × (slice_get (map place_in slots) (cell_after (map place_in slots) k i) ≡ Some (Some p)))
    → (i : ℕ) → i < steps + 1 → (p : ℕ) × (slice_get (map place_in slots) (cell_after (map place_in slots) k i) ≡ Some (Some p))
taken_at slots k size home steps slot place read size_is home_is slot_is below is_read taken way i lt =
    elim (cases_lt i steps) [
      | inl before ↦ way i before
      | inr ge ↦
          let e : steps ≡ i = omega arith in
          let long : length (map place_in slots) ≡ size = length-map slots place_in ∙ sym size_is in
          let at : slot ≡ cell_after (map place_in slots) k steps = rw (long, ← home_is) slot_is in
          let Here : ℕ → Type 0 = λ c. (p : ℕ) × (slice_get (map place_in slots) c ≡ Some (Some p)) in
          let At : ℕ → Type 0 = λ n. Here (cell_after (map place_in slots) k n) in
          subst At e (subst Here at (place, cell_of slots slot read (Some place) below is_read taken))
    ]

pub other_at : (slots : List Slot) (states : List (List ℕ)) (k : List ℕ) (size home steps slot place : ℕ) (read : Slot) (row : List ℕ)
    → size ≡ length slots
    → home ≡ home_of size k
    → slot ≡ after size home steps
    → slot < length slots
    → read ≡ slice_index_or slots slot read
    → place_in read ≡ Some place
    → slice_get states place ≡ Some row
    → row ≢ k
    → ((i : ℕ) → i < steps → IsOther (map place_in slots) states k (cell_after (map place_in slots) k i))
    → (i : ℕ) → i < steps + 1 → IsOther (map place_in slots) states k (cell_after (map place_in slots) k i)
other_at slots states k size home steps slot place read row size_is home_is slot_is below is_read taken there differs way i lt =
    elim (cases_lt i steps) [
      | inl before ↦ way i before
      | inr ge ↦
          let e : steps ≡ i = omega arith in
          let long : length (map place_in slots) ≡ size = length-map slots place_in ∙ sym size_is in
          let at : slot ≡ cell_after (map place_in slots) k steps = rw (long, ← home_is) slot_is in
          let Here : ℕ → Type 0 = λ c. IsOther (map place_in slots) states k c in
          let At : ℕ → Type 0 = λ n. IsOther (map place_in slots) states k (cell_after (map place_in slots) k n) in
          subst At e (subst Here at (record { place = place; other = row; here = cell_of slots slot read (Some place) below is_read taken; there = there; differs = differs }))
    ]

-- the place in a slot that was read is that of a state
pub place_known : (slots : List Slot) (states : List (List ℕ)) (slot place : ℕ) (read : Slot)
    → IsIndexed (map place_in slots) states
    → slot < length slots
    → read ≡ slice_index_or slots slot read
    → place_in read ≡ Some place
    → place < length states
place_known slots states slot place read indexed below is_read taken =
    indexed.known slot place (cell_of slots slot read (Some place) below is_read taken)
