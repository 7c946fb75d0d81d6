-- Words that are compared.
use Rattle.std.proofs.Common.{◌≡◌, ℕ, suc, ◌+◌, ◌<◌, ◌%◌, List, [], ◌∷◌, length, get_or, bit_or, bit_xor, refl, sym, ap, ap₂, ◌∙◌, inl, inr, arith}
use Rattle.std.specs.Int.{bit_at}
use Rattle.std.proofs.lemmas.Bool.{cases_lt}
use Rattle.std.proofs.lemmas.Nat.{le_or_l, le_or_r}
use Rattle.std.proofs.lemmas.Nat.Bits.{bit_at-lt, bit_at-zero, bit_at_xor, same_from_bits}

-- two numbers differ in no bit if they are the same
no_difference : (a : ℕ) → bit_xor a a ≡ 0
no_difference a = same_from_bits (bit_xor a a) 0 (λ i. bit_at_xor a a i ∙ (omega (arith, bit_at-lt a i) ∙ sym (bit_at-zero i)))

same_number : (a b : ℕ) → bit_xor a b ≡ 0 → a ≡ b
same_number a b none = same_from_bits a b (λ i.
    let bits : (bit_at a i + bit_at b i) % 2 ≡ 0 = sym (bit_at_xor a b i) ∙ (ap (λ n. bit_at n i) none ∙ bit_at-zero i) in
    omega (arith, bits, bit_at-lt a i, bit_at-lt b i))

pub same_words : (xs ys : List ℕ) → length ys ≡ length xs → ((i : ℕ) → i < length xs → get_or xs i 0 ≡ get_or ys i 0) → xs ≡ ys
same_words [] [] long each = refl
same_words [] (y ∷ ys) long each = absurd (omega (arith, long))
same_words (x ∷ xs) [] long each = absurd (omega (arith, long))
same_words (x ∷ xs) (y ∷ ys) long each =
    let first : x ≡ y = each 0 (omega arith) in
    let rest : xs ≡ ys = same_words xs ys (omega (arith, long)) (λ i below. each (suc i) (omega arith)) in
    ap₂ ◌∷◌ first rest

-- the words before `at` are the same if nothing differs so far, and nothing does if all are
pub record AreAlike (words others : List ℕ) (differ at : ℕ) : Type 0 where
  pub alike : differ ≡ 0 → (i : ℕ) → i < at → get_or words i 0 ≡ get_or others i 0
  pub none : words ≡ others → differ ≡ 0

pub AreAlike-start : (words others : List ℕ) → AreAlike words others 0 0
AreAlike-start words others = record { alike = λ none i below. absurd (omega arith); none = λ same. refl }

pub AreAlike-next : (words others : List ℕ) (differ at x y : ℕ) → get_or words at 0 ≡ x → get_or others at 0 ≡ y → AreAlike words others differ at → AreAlike words others (bit_or differ (bit_xor x y)) (at + 1)
AreAlike-next words others differ at x y x_is y_is so_far = record {
  alike = λ none i below.
      let before : differ ≡ 0 = omega (arith, none, le_or_l differ (bit_xor x y)) in
      let here : bit_xor x y ≡ 0 = omega (arith, none, le_or_r differ (bit_xor x y)) in
      elim (cases_lt i at) [
        | inl lt ↦ so_far.alike before i lt
        | inr ge ↦
            let e : i ≡ at = omega (arith, ge, below) in
            rw e (x_is ∙ (same_number x y here ∙ sym y_is))
      ];
  none = λ same.
      let e : x ≡ y = sym x_is ∙ (ap (λ xs. get_or xs at 0) same ∙ y_is) in
      ap₂ bit_or (so_far.none same) (ap (bit_xor x) (sym e) ∙ no_difference x);
}
