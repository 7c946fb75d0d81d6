-- No digit of a message is escaped.
use Rattle.std.proofs.Common.{◌≡◌, ℕ, ◌+◌, ◌<◌, ◌≤◌, ◌/◌, ◌%◌, false, List, [], ◌∷◌, refl, ap, inl, inr, arith}
use Rattle.std.proofs.lemmas.Bool.{cases_Bool, le-ltb, ltb-false, ltb-true, ne_eqb}
use Rattle.std.specs.Prelude.{flat_map, nat_lt}
use Rattle.std.specs.Fmt.{digit_glyph}
use Rattle.apex_json.specs.Strings.{json_byte, json_text}
use Rattle.apex_machine.specs.text.Texts.{byte_text, bytes_text}

-- the byte is no control byte, and neither `"` nor `\`
plain : (byte : ℕ) → 32 ≤ byte → (byte ≡ 34 → ⊥) → (byte ≡ 92 → ⊥) → json_byte byte ≡ byte ∷ []
plain byte above quote slash = rw (ne_eqb byte 34 quote, ne_eqb byte 92 slash, le-ltb byte 32 above) refl

plain_digit : (n : ℕ) → json_byte (digit_glyph false n) ≡ digit_glyph false n ∷ []
plain_digit n = elim (cases_Bool (nat_lt n 10)) [
  | inl low ↦
      let few : n < 10 = ltb-true n 10 low in
      let is : digit_glyph false n ≡ 48 + n = rw low refl in
      rw is (plain (48 + n) (omega arith) (λ e. omega (arith, e)) (λ e. omega (arith, e, few)))
  | inr high ↦
      let many : 10 ≤ n = ltb-false n 10 high in
      let is : digit_glyph false n ≡ 87 + n = rw high refl in
      rw is (plain (87 + n) (omega arith) (λ e. omega (arith, e)) (λ e. omega (arith, e, many)))
]

plain_digits : (bytes : List ℕ) → json_text (flat_map byte_text bytes) ≡ flat_map byte_text bytes
plain_digits [] = refl
plain_digits (byte ∷ bytes) =
    rw (plain_digit (byte / 16), plain_digit (byte % 16))
    (ap (λ rest. digit_glyph false (byte / 16) ∷ digit_glyph false (byte % 16) ∷ rest) (plain_digits bytes))

pub plain_bytes : (bytes : List ℕ) → json_text (bytes_text bytes) ≡ bytes_text bytes
plain_bytes [] = refl
plain_bytes (byte ∷ bytes) = plain_digits (byte ∷ bytes)
