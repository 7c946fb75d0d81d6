-- A number read digit by digit is the number that its digits write by their places.
use Rattle.std.proofs.Common.{◌≡◌, ℕ, suc, ◌+◌, ◌-◌, ◌*◌, ◌^◌, ◌&&◌, true, false, List, [], ◌∷◌, Option, Some, None, length, if◌then◌else◌, refl, ◌∙◌, ap, arith}
use Rattle.std.proofs.Math.Nat.{add-mul, mul_assoc, pow-succ'}
use Rattle.std.specs.Char.{is_ascii_digit}
use Rattle.std.specs.Str.{all_ascii_digits}
use Rattle.apex_types.specs.Numbers.{digits_value}

-- the number of n's digits and, behind them, these; none if a byte is no digit
abbrev pub more_digits : ℕ → List ℕ → Option ℕ
more_digits n [] = Some n
more_digits n (digit ∷ rest) = if is_ascii_digit digit then more_digits (n * 10 + (digit - 48)) rest else None

-- the number of n's digits and, behind them, these
abbrev behind : ℕ → List ℕ → ℕ
behind n ds = n * 10 ^ length ds + digits_value ds

one_more : (n digit : ℕ) (rest : List ℕ) → behind (n * 10 + digit) rest ≡ n * 10 ^ suc (length rest) + (digit * 10 ^ length rest + digits_value rest)
one_more n digit rest =
    let weight = 10 ^ length rest in
    let split : (n * 10 + digit) * weight ≡ n * 10 * weight + digit * weight = add-mul (n * 10) digit weight in
    let moved : n * 10 * weight ≡ n * (10 * weight) = mul_assoc n 10 weight in
    let next : n * 10 ^ suc (length rest) ≡ n * (10 * weight) = ap (λ k. n * k) (pow-succ' 10 (length rest)) in
    omega (arith, split, moved, next)

by_place : (n : ℕ) (ds : List ℕ) → more_digits n ds ≡ (if all_ascii_digits ds then Some (behind n ds) else None)
by_place n [] = ap Some (omega arith)
by_place n (digit ∷ rest) =
    elim (is_ascii_digit digit) as (λ b. (if b then more_digits (n * 10 + (digit - 48)) rest else None) ≡ (if b && all_ascii_digits rest then Some (behind n (digit ∷ rest)) else None)) [
      | true ↦ by_place (n * 10 + (digit - 48)) rest ∙ ap (λ k. if all_ascii_digits rest then Some k else None) (one_more n (digit - 48) rest)
      | false ↦ refl
    ]

pub from_the_left : (word : List ℕ) → more_digits 0 word ≡ (if all_ascii_digits word then Some (digits_value word) else None)
from_the_left word =
    let alone : behind 0 word ≡ digits_value word = omega arith in
    by_place 0 word ∙ ap (λ k. if all_ascii_digits word then Some k else None) alone
