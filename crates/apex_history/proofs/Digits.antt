-- The text of a number, two digits behind the others.
use Rattle.std.proofs.Common.{◌≡◌, ℕ, zero, suc, ◌+◌, ◌-◌, ◌*◌, ◌/◌, ◌%◌, ◌^◌, ◌<◌, ◌≤◌, Bool, true, ◌&&◌, T, eqb, List, [], ◌∷◌, ◌++◌, get_or, ap, sym, ◌∙◌, inl, inr, arith, eq-zero-or-pos, eqb→eq, append_assoc, refl}
use Rattle.std.specs.Prelude.{decimal}
use Rattle.itoa.proofs.Decimal.{decimal_pair, decimal_two}
use Rattle.std.proofs.lemmas.Fmt.{decimal_digit}
use lib.Ieee.Fits.{and_l, and_r}
use Rattle.apex_history.specs.declared.puts.TheConstants.{DIGIT_PAIRS}

-- the first n pairs of the table are the digits of their places
abbrev are_pairs : ℕ → Bool
are_pairs zero = true
are_pairs (suc p) = (eqb (get_or DIGIT_PAIRS (p * 2) 0) (48 + p / 10) && eqb (get_or DIGIT_PAIRS (p * 2 + 1) 0) (48 + p % 10)) && are_pairs p

pair_below : (n p : ℕ) → T (are_pairs n) → p < n → (get_or DIGIT_PAIRS (p * 2) 0 ≡ 48 + p / 10) × (get_or DIGIT_PAIRS (p * 2 + 1) 0 ≡ 48 + p % 10)
pair_below zero p t lt = absurd (omega arith)
pair_below (suc n) p t lt =
    elim (eq-zero-or-pos (n - p)) [
      | inl z ↦ let e : p ≡ n = omega arith in let a = and_l _ (are_pairs n) t in rw e (eqb→eq _ _ (and_l _ _ a), eqb→eq _ _ (and_r _ _ a))
      | inr g ↦ pair_below n p (and_r _ (are_pairs n) t) (omega arith)
    ]

-- the two digits of a number below 100
pub pair_at : (p : ℕ) → p < 100 → (get_or DIGIT_PAIRS (p * 2) 0 ≡ 48 + p / 10) × (get_or DIGIT_PAIRS (p * 2 + 1) 0 ≡ 48 + p % 10)
pair_at p lt = pair_below 100 p tt lt

-- a number of two digits
pub two_digits : (n : ℕ) → 10 ≤ n → n < 100 → decimal n ≡ (48 + n / 10) ∷ (48 + n % 10) ∷ []
two_digits n low high = decimal_two n low high

-- a text with a number's first digits behind it, and then with its two last ones
pub pair_behind : (before most whole : List ℕ) (n : ℕ) → 100 ≤ n → n < 2 ^ 64 → most ≡ before ++ decimal (n / 100)
    → whole ≡ most ++ (48 + n % 100 / 10) ∷ (48 + n % 100 % 10) ∷ [] → whole ≡ before ++ decimal n
pair_behind before most whole n low high first last =
    last ∙ ap (λ text. text ++ (48 + n % 100 / 10) ∷ (48 + n % 100 % 10) ∷ []) first
    ∙ append_assoc before (decimal (n / 100)) _ ∙ ap (λ text. before ++ text) (sym (decimal_pair n low high))

-- a number of five digits
pub five_digits : (n : ℕ) → 10000 ≤ n → n < 100000
    → decimal n ≡ (48 + n / 100 / 100) ∷ (48 + n / 100 % 100 / 10) ∷ (48 + n / 100 % 100 % 10) ∷ (48 + n % 100 / 10) ∷ (48 + n % 100 % 10) ∷ []
five_digits n low high =
    rw (decimal_pair n (omega arith) (omega arith), decimal_pair (n / 100) (omega arith) (omega arith), decimal_digit (n / 100 / 100) (omega arith)) refl
