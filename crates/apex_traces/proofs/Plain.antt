-- From the loads of a text to its bytes, of which none is escaped.
use Rattle.std.proofs.Common.{◌≡◌, ◌∙◌, ℕ, zero, suc, ◌+◌, ◌-◌, ◌%◌, ◌^◌, ◌≤◌, ◌==◌, ◌||◌, Bool, true, false, not, List, [], ◌∷◌, ◌++◌, map, length, get_or, Fits, w8, refl, sym, ap, arith, inl, inr}
use Rattle.std.proofs.lemmas.Bool.{agree_below, agree_below_at, cases_lt, not-true}
use Rattle.std.proofs.lemmas.List.{length-map}
use Rattle.std.proofs.lemmas.Simd.{length-chunk, map-map, mask_l-mod, none_from_empty_mask}
use Rattle.std.specs.Prelude.{nat_lt}
use lib.Lanes.{chunk, mask_l, top}
use Rattle.apex_json.specs.Strings.{json_byte, json_text}
use Rattle.apex_traces.specs.Escapes.{ArePlain}

-- bytes of which each is its own text are their own text
pub plain_text : (bytes : List ℕ) → ArePlain bytes 0 (length bytes) → json_text bytes ≡ bytes
plain_text [] plain = refl
plain_text (byte ∷ bytes) plain =
    let first : json_byte byte ≡ byte ∷ [] = plain zero (omega arith) (omega arith) in
    let rest : json_text bytes ≡ bytes = plain_text bytes (λ k from to. plain (suc k) (omega arith) (omega (arith, to))) in
    ap (λ l. l ++ json_text bytes) first ∙ ap (λ l. byte ∷ l) rest

-- a byte that is no mark and no control byte
plain_byte : (byte : ℕ) → (byte == 34 || byte == 92) ≡ false → nat_lt byte 32 ≡ false → json_byte byte ≡ byte ∷ []
plain_byte byte unmarked uncontrolled = rw (unmarked, uncontrolled) refl

-- the loads that cover a text
pub joined : (bytes : List ℕ) (i n : ℕ) → ArePlain bytes 0 i → ArePlain bytes (length bytes - n) n
    → length bytes ≤ i + n → n ≤ length bytes → json_text bytes ≡ bytes
joined bytes i n front back overlaps fits =
    plain_text bytes (λ k from to. elim (cases_lt k i) [
      | inl early ↦ front k from (omega (arith, early))
      | inr late ↦ back k (omega (arith, late, overlaps, fits)) (omega (arith, to, fits))
    ])

-- the next load goes on behind those before it
pub goes_on : (bytes : List ℕ) (i n j : ℕ) → ArePlain bytes 0 i → ArePlain bytes i n → j ≡ i + n → ArePlain bytes 0 j
goes_on bytes i n j front next is k from to =
    elim (cases_lt k i) [ inl early ↦ front k from (omega (arith, early)) | inr late ↦ next k late (omega (arith, to, is)) ]

-- the bytes of a load, at none of whose lanes a bit is set, where f is computed lane by lane
module _ (bytes : List ℕ) (i n : ℕ) (fits : (k : ℕ) → Fits w8 (get_or bytes k 0)) (room : i + n ≤ length bytes) (few : n ≤ 64)
    (f : ℕ → ℕ) (lanes : List ℕ) (are : lanes ≡ map f (chunk i n bytes)) (none : mask_l (map (top 7) lanes) % 2 ^ 64 ≡ 0) where
  abbrev odd : ℕ → Bool
  odd byte = top 7 (f byte)

  empty : mask_l (map odd (chunk i n bytes)) ≡ 0
  empty =
      let v = chunk i n bytes in
      let long : length v ≡ n = length-chunk i n bytes room in
      let mask = ap (λ l. mask_l l % 2 ^ 64) (ap (map (top 7)) are ∙ map-map (top 7) f v)
      ∙ mask_l-mod (map odd v) 64 (omega (arith, length-map v odd, long, few)) in
      sym mask ∙ none

  pub plain_load : agree_below (λ byte. odd byte || not (byte == 34 || byte == 92)) (λ _. true) 256 ≡ true
      → agree_below (λ byte. odd byte || not (nat_lt byte 32)) (λ _. true) 256 ≡ true
      → ArePlain bytes i n
  plain_load marks controls k from to =
      let byte = get_or bytes k 0 in
      let even : odd byte ≡ false = none_from_empty_mask odd bytes i n 0 room empty k from to in
      let marked = byte == 34 || byte == 92 in
      let unmarked : not marked ≡ true =
      sym (ap (λ b. b || not marked) even)
      ∙ agree_below_at (λ byte. odd byte || not (byte == 34 || byte == 92)) (λ _. true) 256 byte marks (fits k).fits in
      let uncontrolled : not (nat_lt byte 32) ≡ true =
      sym (ap (λ b. b || not (nat_lt byte 32)) even)
      ∙ agree_below_at (λ byte. odd byte || not (nat_lt byte 32)) (λ _. true) 256 byte controls (fits k).fits in
      plain_byte byte (not-true _ unmarked) (not-true _ uncontrolled)
