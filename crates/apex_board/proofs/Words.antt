-- The words of a front give the front back.
use Rattle.std.proofs.Common.{◌≡◌, ◌⊎◌, ⊎_elim, inl, inr, ℕ, zero, suc, ◌+◌, ◌<◌, ◌≤◌, List, [], ◌∷◌, length, map, take, get_or, All, Option, None, Some, IfSome, refl, sym, ◌∙◌, ap, arith}
use Rattle.std.specs.Int.{w64, from_le_bytes, to_le_bytes}
use Rattle.std.specs.List.{range_with_len}
use Rattle.std.proofs.lemmas.List.{get_or_past}
use Rattle.std.proofs.lemmas.Nat.{le_bytes_8}
use Rattle.std.proofs.lemmas.List.FromFn.{get_or-map-range_with_len, length-map-range_with_len, take-map-range_with_len}
use Rattle.apex_types.specs.declared.limits.TheConstants.{MOST_CORES}
use Rattle.apex_machine.specs.table.Table.{Table}
use Rattle.apex_types.specs.declared.entries.Entry.{Entry}
use Rattle.apex_board.specs.Fronts.{FitsWords, Front, IsFrontAfter, IsSmallId, byte_of, core_byte, core_bytes, words_of}

byte_injective : (x y : Option ℕ) → byte_of x ≡ byte_of y → x ≡ y
byte_injective None None e = refl
byte_injective None (Some q) e = absurd (omega (arith, e))
byte_injective (Some p) None e = absurd (omega (arith, e))
byte_injective (Some p) (Some q) e = ap Some (omega (arith, e))

pub bytes_injective : (xs ys : List (Option ℕ)) → map byte_of xs ≡ map byte_of ys → xs ≡ ys
bytes_injective [] [] e = refl
bytes_injective [] (y ∷ ys) e = absurd cc
bytes_injective (x ∷ xs) [] e = absurd cc
bytes_injective (x ∷ xs) (y ∷ ys) e = cc (byte_injective x y cc, bytes_injective xs ys cc)

-- the bytes of the cores that the partition has
pub bytes_of : (front : Front) → length front.chosen ≤ MOST_CORES → take (length front.chosen) (core_bytes front) ≡ map byte_of front.chosen
bytes_of front few = take-map-range_with_len (core_byte front) 0 MOST_CORES (length front.chosen) few ∙ same 0 front.chosen (λ k. ap (λ (i : ℕ). get_or front.chosen i None) (omega arith))
  where
    same : (a : ℕ) (xs : List (Option ℕ)) → ((k : ℕ) → get_or front.chosen (a + k) None ≡ get_or xs k None) → map (core_byte front) (range_with_len a (length xs)) ≡ map byte_of xs
    same a [] agree = refl
    same a (x ∷ xs) agree =
        let here : get_or front.chosen a None ≡ x = ap (λ (i : ℕ). get_or front.chosen i None) (omega arith) ∙ agree 0 in
        let more : (k : ℕ) → get_or front.chosen (a + 1 + k) None ≡ get_or xs k None =
        λ k. ap (λ (i : ℕ). get_or front.chosen i None) (omega arith) ∙ agree (suc k) in
        λ i. ap byte_of here i ∷ same (a + 1) xs more i

-- a front of this table has a place for each of its cores
pub front_cores : (table : Table) (history : List Entry) (front : Front) → IsFrontAfter table history front → length front.chosen ≡ table.cores
front_cores table history front after =
    ap (λ (f : Front). length f.chosen) after.shown ∙ length-map-range_with_len _ 0 table.cores

half : (n m : ℕ) → (n ≤ m) ⊎ (m < n)
half zero m = inl (omega arith)
half (suc n) zero = inr (omega arith)
half (suc n) (suc m) = ⊎_elim (λ (h : n ≤ m). inl (omega (arith, h))) (λ (h : m < n). inr (omega (arith, h))) (half n m)

small_byte : (x : Option ℕ) → IfSome x IsSmallId → byte_of x < 256
small_byte None small = omega arith
small_byte (Some p) small = omega (arith, small)

small_at : (xs : List (Option ℕ)) → All (λ (running : Option ℕ). IfSome running IsSmallId) xs → (core : ℕ) → byte_of (get_or xs core None) < 256
small_at xs small core = ⊎_elim
    (λ (past : length xs ≤ core). rw (get_or_past xs core None past) (omega arith))
    (λ (within : core < length xs). small_byte _ (small core None within))
    (half (length xs) core)

small_bytes : (front : Front) → FitsWords front → (i : ℕ) → get_or (core_bytes front) i 0 < 256
small_bytes front fits i = ⊎_elim
    (λ (past : MOST_CORES ≤ i). rw (get_or_past (core_bytes front) i 0 (omega (arith, past, length-map-range_with_len (core_byte front) 0 MOST_CORES))) (omega arith))
    (λ (within : i < MOST_CORES). rw (get_or-map-range_with_len (core_byte front) 0 MOST_CORES i i 0 within (omega arith)) (small_at front.chosen fits.ids i))
    (half MOST_CORES i)

-- the bytes of the third word are those of the cores
pub bytes_back : (front : Front) (word : ℕ) → FitsWords front → word ≡ from_le_bytes w64 (core_bytes front) → to_le_bytes w64 word ≡ core_bytes front
bytes_back front word fits is =
    le_bytes_8 (core_bytes front) word (length-map-range_with_len (core_byte front) 0 MOST_CORES) (small_bytes front fits) is

-- what is read from the words is the front that was written
pub decoded : (front : Front) (words : List ℕ) (chosen : List (Option ℕ)) (cores : ℕ) (bytes : List ℕ) → words ≡ words_of front → FitsWords front
    → length front.chosen ≡ cores → bytes ≡ to_le_bytes w64 (get_or words 2 0) → map byte_of chosen ≡ take cores bytes
    → record { entries = get_or words 0 0; now = get_or words 1 0; chosen = chosen } ≡ front
decoded front words chosen cores bytes written fits many read taken =
    let all : bytes ≡ core_bytes front = read ∙ bytes_back front (get_or words 2 0) fits (ap (λ (w : List ℕ). get_or w 2 0) written) in
    let same : chosen ≡ front.chosen = bytes_injective chosen front.chosen
    (taken ∙ ap (take cores) all ∙ ap (λ (n : ℕ). take n (core_bytes front)) (sym many) ∙ bytes_of front fits.cores) in
    λ i. record { entries = get_or (written i) 0 0; now = get_or (written i) 1 0; chosen = same i }
