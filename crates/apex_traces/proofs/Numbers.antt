-- The digits of a number below 100, by the tables.
use Rattle.std.proofs.Common.{◌≡◌, ◌∙◌, ℕ, ◌+◌, ◌*◌, ◌/◌, ◌%◌, ◌<◌, ◌≤◌, Bool, true, eqb, ltb, List, [], ◌∷◌, ◌++◌, length, take, drop, get_or, ap, inl, inr, arith, refl}
use Rattle.std.proofs.lemmas.Bool.{agree_below, agree_below_at, cases_lt, eqb-true, le-ltb, lt-ltb}
use Rattle.std.proofs.lemmas.Fmt.{decimal_digit}
use Rattle.std.proofs.lemmas.List.{get_or-drop, length-drop}
use Rattle.std.proofs.Math.Seq.{take-suc}
use Rattle.std.specs.Prelude.{decimal, if◌then◌else◌}
use Rattle.apex_history.proofs.Digits.{pair_at, two_digits}
use Rattle.apex_history.specs.declared.puts.TheConstants.{DIGIT_PAIRS}
use Rattle.apex_traces.specs.declared.pieces.TheConstants.{NUMBERS}

-- the first byte of a table from a place on, and the first two
one_at : (table : List ℕ) (i : ℕ) → i + 1 ≤ length table → take 1 (drop i table) ≡ get_or table (i + 0) 0 ∷ []
one_at table i there =
    take-suc (drop i table) 0 0 (omega (arith, length-drop i table, there)) ∙ ap (λ n. n ∷ []) (get_or-drop i table 0 0)

two_at : (table : List ℕ) (i : ℕ) → i + 2 ≤ length table
    → take 2 (drop i table) ≡ get_or table (i + 0) 0 ∷ get_or table (i + 1) 0 ∷ []
two_at table i there =
    take-suc (drop i table) 1 0 (omega (arith, length-drop i table, there))
    ∙ ap (λ l. l ++ (get_or (drop i table) 1 0 ∷ [])) (one_at table i (omega (arith, there)))
    ∙ ap (λ n. get_or table (i + 0) 0 ∷ n ∷ []) (get_or-drop i table 1 0)

-- the two digits of a number
pub pair_text : (p : ℕ) → p < 100 → take 2 (drop (2 * p) DIGIT_PAIRS) ≡ (48 + p / 10) ∷ (48 + p % 10) ∷ []
pair_text p lt =
    let doubled : 2 * p ≡ p * 2 = omega arith in
    let even : p * 2 + 0 ≡ p * 2 = omega arith in
    let first : get_or DIGIT_PAIRS (p * 2 + 0) 0 ≡ 48 + p / 10 = ap (λ i. get_or DIGIT_PAIRS i 0) even ∙ (pair_at p lt).0 in
    rw doubled (two_at DIGIT_PAIRS (p * 2) (omega (arith, lt)) ∙ ap (λ n. n ∷ get_or DIGIT_PAIRS (p * 2 + 1) 0 ∷ []) first
    ∙ ap (λ n. (48 + p / 10) ∷ n ∷ []) (pair_at p lt).1)

-- the table of numbers has the first digit of a number and, if it has two, the second one
abbrev is_first : ℕ → Bool
is_first p = eqb (get_or NUMBERS (2 * p + 0) 0) (if ltb p 10 then 48 + p else 48 + p / 10)

abbrev is_second : ℕ → Bool
is_second p = if ltb p 10 then true else eqb (get_or NUMBERS (2 * p + 1) 0) (48 + p % 10)

are_first : agree_below is_first (λ _. true) 100 ≡ true
are_first = refl

are_second : agree_below is_second (λ _. true) 100 ≡ true
are_second = refl

-- the digits of a number
pub number_text : (p : ℕ) → p < 100 → take (length (decimal p)) (drop (2 * p) NUMBERS) ≡ decimal p
number_text p lt =
    let there : is_first p ≡ true = agree_below_at is_first (λ _. true) 100 p are_first lt in
    let behind : is_second p ≡ true = agree_below_at is_second (λ _. true) 100 p are_second lt in
    elim (cases_lt p 10) [
      | inl few ↦
          let first : get_or NUMBERS (2 * p + 0) 0 ≡ 48 + p = eqb-true _ _ (rw (lt-ltb p 10 few) at there) in
          rw (decimal_digit p few) (one_at NUMBERS (2 * p) (omega (arith, lt)) ∙ ap (λ n. n ∷ []) first)
      | inr many ↦
          let first : get_or NUMBERS (2 * p + 0) 0 ≡ 48 + p / 10 = eqb-true _ _ (rw (le-ltb p 10 many) at there) in
          let second : get_or NUMBERS (2 * p + 1) 0 ≡ 48 + p % 10 = eqb-true _ _ (rw (le-ltb p 10 many) at behind) in
          rw (two_digits p many lt) (two_at NUMBERS (2 * p) (omega (arith, lt))
          ∙ ap (λ n. n ∷ get_or NUMBERS (2 * p + 1) 0 ∷ []) first ∙ ap (λ n. (48 + p / 10) ∷ n ∷ []) second)
    ]

-- the first two digits of a number below 1,000, of which the first ones may be zeros
pub fraction_pair : (n : ℕ) → n < 1000 → (48 + n / 10 / 10) ∷ (48 + n / 10 % 10) ∷ [] ≡ decimal (n / 100) ++ decimal (n / 10 % 10)
fraction_pair n lt =
    let first : n / 10 / 10 ≡ n / 100 = omega arith in
    rw (decimal_digit (n / 100) (omega (arith, lt)), decimal_digit (n / 10 % 10) (omega arith), first) refl
