-- The marks as one bit changes, and the highest bit of a word.
use Rattle.std.proofs.Common.{◌≡◌, ◌≢◌, ℕ, zero, suc, ◌+◌, ◌-◌, ◌*◌, ◌/◌, ◌%◌, ◌^◌, ◌<◌, ◌≤◌, Bool, true, false, List, length, get_or, set, replicate, inl, inr, refl, ap, arith}
use Rattle.std.specs.Prelude.{◌==◌, if◌then◌else◌, bit_and, bit_or}
use Rattle.std.specs.Int.{bit_at, bit_not, w64}
use lib.Count.{count_leading_zeros}
use Rattle.std.proofs.lemmas.Bool.{cases_eq, cases_lt}
use Rattle.std.proofs.lemmas.Grind.{get_or-set_at}
use Rattle.std.proofs.lemmas.List.{get_or-set_other}
use Rattle.std.proofs.lemmas.Nat.{leading_top}
use Rattle.std.proofs.Math.Nat.{div-eq_of_lt-le, pow-suc}
use Rattle.std.proofs.lemmas.Nat.Bits.{bit_at-zero, bit_at_above, bit_at_set_same, bit_at_set_other, bit_at_clear_same, bit_at_clear_other}
use Rattle.apex_links.specs.declared.numbers.TheConstants.{PRIORITIES, READY_LISTS}
use Rattle.apex_ready.specs.ReadyOrders.{is_marked, ready_list, IsHighest, IsHighestBit}

-- the word of a list has another value from now on
abbrev with_word : List ℕ → ℕ → ℕ → List ℕ
with_word words n word = set words (n / 64) word

-- a word in which one bit differs changes one mark
module _ (words : List ℕ) (n word : ℕ) (value : Bool) (long : length words ≡ 32) (known : n < READY_LISTS)
    (here : (bit_at word (n % 64) == 1) ≡ value)
    (others : (i : ℕ) → i < 64 → i ≢ n % 64 → bit_at word i ≡ bit_at (get_or words (n / 64) 0) i) where
  pub marks_change : (l : ℕ) → l < READY_LISTS → is_marked (with_word words n word) l ≡ (if l == n then value else is_marked words l)
  marks_change l inside = elim (cases_eq l n) as (λ _. is_marked (with_word words n word) l ≡ (if l == n then value else is_marked words l)) [
    | inl e ↦
        let got : get_or (set words (n / 64) word) (l / 64) 0 ≡ word = get_or-set_at words (n / 64) (l / 64) word 0 (ap (λ (m : ℕ). m / 64) e) (omega (arith, long, known)) in
        let same : (l == n) ≡ true = grind (arith, e) in
        rw (same, got, e) here
    | inr apart ↦
        let other : (l == n) ≡ false = grind (arith, apart) in
        rw other (elim (cases_eq (l / 64) (n / 64)) as (λ _. is_marked (with_word words n word) l ≡ is_marked words l) [
          | inl e ↦
              let got : get_or (set words (n / 64) word) (l / 64) 0 ≡ word = get_or-set_at words (n / 64) (l / 64) word 0 e (omega (arith, long, known)) in
              rw (got, others (l % 64) (omega arith) (λ f. apart (omega arith)), e) refl
          | inr differs ↦ rw (get_or-set_other words (n / 64) (l / 64) word 0 differs) refl
        ])
  ]

-- setting a bit marks its list, and clearing it takes the mark away
pub marked : (words : List ℕ) (n : ℕ) → length words ≡ 32 → n < READY_LISTS → (l : ℕ) → l < READY_LISTS
    → is_marked (set words (n / 64) (bit_or (get_or words (n / 64) 0) (1 * 2 ^ (n % 64) % 2 ^ 64))) l ≡ (if l == n then true else is_marked words l)
marked words n long known =
    let w = get_or words (n / 64) 0 in
    let small : n % 64 < 64 = omega arith in
    let here : (bit_at (bit_or w (1 * 2 ^ (n % 64) % 2 ^ 64)) (n % 64) == 1) ≡ true = rw (bit_at_set_same w64 w (n % 64) small) refl in
    marks_change words n _ true long known here (λ i _ apart. bit_at_set_other w64 w (n % 64) small i apart)

pub cleared : (words : List ℕ) (n : ℕ) → length words ≡ 32 → n < READY_LISTS → (l : ℕ) → l < READY_LISTS
    → is_marked (set words (n / 64) (bit_and (get_or words (n / 64) 0) (bit_not w64 (1 * 2 ^ (n % 64) % 2 ^ 64)))) l ≡ (if l == n then false else is_marked words l)
cleared words n long known =
    let w = get_or words (n / 64) 0 in
    let small : n % 64 < 64 = omega arith in
    let here : (bit_at (bit_and w (bit_not w64 (1 * 2 ^ (n % 64) % 2 ^ 64))) (n % 64) == 1) ≡ false = rw (bit_at_clear_same w64 w (n % 64) small) refl in
    marks_change words n _ false long known here (λ i low apart. bit_at_clear_other w64 w (n % 64) small i low apart)

-- no list is marked in words of zeros
pub none_marked : (many l : ℕ) → is_marked (replicate {A = ℕ} many 0) l ≡ false
none_marked many l = rw (get_or-replicate-same many (l / 64), bit_at-zero (l % 64)) refl where
  get_or-replicate-same : (many i : ℕ) → get_or (replicate {A = ℕ} many 0) i 0 ≡ 0
  get_or-replicate-same zero i = refl
  get_or-replicate-same (suc many) zero = refl
  get_or-replicate-same (suc many) (suc i) = get_or-replicate-same many i

-- the highest bit of a word that is not zero, and the bits above it
top_bit : (word j : ℕ) → 2 ^ j ≤ word → word < 2 ^ suc j → bit_at word j ≡ 1
top_bit word j least most =
    let e : word / 2 ^ j ≡ 1 = div-eq_of_lt-le (2 ^ j) (omega (arith, least)) (omega (arith, most, pow-suc 2 j)) in
    rw e refl

pub highest_bit : (word : ℕ) → 0 < word → word < 2 ^ 64 → IsHighestBit word (63 - count_leading_zeros 64 word)
highest_bit word some fits =
    let top = leading_top 64 word some fits in
    let same : 63 - count_leading_zeros 64 word ≡ top.0 = omega (arith, top.1) in
    rw same (record {
      place = omega (arith, top.1);
      set = top_bit word top.0 top.2 top.3;
      above = λ i higher. bit_at_above word (suc top.0) i top.3 (omega (arith, higher));
    })

-- the highest list of a core that is marked: its bit is the highest of its word, and no bit of a
-- higher word is set
pub highest_list : (words : List ℕ) (core round j : ℕ) → round < 4 → IsHighestBit (get_or words (4 * core + (3 - round)) 0) j
    → ((p : ℕ) → p < PRIORITIES → PRIORITIES ≤ p + 64 * round → is_marked words (ready_list core p) ≡ false)
    → IsHighest words core (64 * (3 - round) + j)
highest_list words core round j inside top higher =
    let small = top.place in
    record {
      known = omega (arith, small, inside);
      marked =
          let word : (PRIORITIES * core + (64 * (3 - round) + j)) / 64 ≡ 4 * core + (3 - round) = omega (arith, inside, small) in
          let bit : (PRIORITIES * core + (64 * (3 - round) + j)) % 64 ≡ j = omega (arith, small) in
          rw (word, bit, top.set) refl;
      highest = λ q above known. elim (cases_lt (q + 64 * round) PRIORITIES) [
        | inr over ↦ higher q known over
        | inl under ↦
            let word : (PRIORITIES * core + q) / 64 ≡ 4 * core + (3 - round) = omega (arith, inside, above, under) in
            let bit : j < (PRIORITIES * core + q) % 64 = omega (arith, inside, small, above, under) in
            rw (word, top.above ((PRIORITIES * core + q) % 64) bit) refl
      ];
    }

-- a word of zeros has no mark
pub word_unmarked : (words : List ℕ) (core round : ℕ) → round < 4 → get_or words (4 * core + (3 - round)) 0 ≡ 0
    → ((p : ℕ) → p < PRIORITIES → PRIORITIES ≤ p + 64 * round → is_marked words (ready_list core p) ≡ false)
    → (p : ℕ) → p < PRIORITIES → PRIORITIES ≤ p + 64 * (round + 1) → is_marked words (ready_list core p) ≡ false
word_unmarked words core round inside none higher p known here = elim (cases_lt (p + 64 * round) PRIORITIES) [
  | inr above ↦ higher p known above
  | inl below ↦
      let word : (PRIORITIES * core + p) / 64 ≡ 4 * core + (3 - round) = omega (arith, inside) in
      rw (word, none, bit_at-zero ((PRIORITIES * core + p) % 64)) refl
]
