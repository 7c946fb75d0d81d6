-- The places of a byte in a text.
use Rattle.std.proofs.Common.{◌≡◌, ◌∙◌, ℕ, zero, suc, ◌+◌, ◌-◌, ◌<◌, ◌≤◌, ◌%◌, ◌^◌, Bool, true, false, cond, eqb, refl, sym, ap, arith, List, [], ◌∷◌, length, get_or, map, replicate, take, drop, w8, eqb-true}
use Rattle.std.specs.Int.{bit_at}
use Rattle.std.specs.Simd.Lanes.{zip2, mask_l, top}
use Rattle.std.proofs.lemmas.Bool.{eq-eqb}
use Rattle.std.proofs.lemmas.List.{get_or-drop, get_or-take, length-drop, length-take-le, take_rest}
use Rattle.std.proofs.lemmas.Simd.{bit_mask_l, bitmask_splat}
use Rattle.apex_incoming.specs.Places.{ArePlaces}

-- the mask of the places among the first 32 bytes
abbrev pub places_in : ℕ → List ℕ → ℕ
places_in byte text = mask_l (map (λ x. eqb x byte) (take 32 text))

pub mask_is : (byte : ℕ) (text : List ℕ) → 32 ≤ length text
    → mask_l (map (top 7) (zip2 (λ a b. cond (eqb a b) 255 0) (take 32 text) (replicate 32 byte))) % 2 ^ 64 ≡ places_in byte text
mask_is byte text long = bitmask_splat w8 eqb (take 32 text) 32 byte (length-take-le 32 text long) (omega arith)

set_only : (b : Bool) → cond {A = ℕ} b 1 0 ≡ 1 → b ≡ true
set_only true e = refl
set_only false e = cc

-- a place of which the test is true
test_at : (test : ℕ → Bool) (xs : List ℕ) (k : ℕ) → get_or (map test xs) k false ≡ true → (k < length xs) × (test (get_or xs k 0) ≡ true)
test_at test [] k is = cc
test_at test (x ∷ xs) zero is = (omega arith, is)
test_at test (x ∷ xs) (suc k) is =
    let (within, here) = test_at test xs k is in
    (omega (arith, within), here)

test_set : (test : ℕ → Bool) (xs : List ℕ) (k : ℕ) → k < length xs → test (get_or xs k 0) ≡ true → get_or (map test xs) k false ≡ true
test_set test [] k within is = absurd (omega arith)
test_set test (x ∷ xs) zero within is = is
test_set test (x ∷ xs) (suc k) within is = test_set test xs k (omega arith) is

module _ (byte : ℕ) (text : List ℕ) (long : 32 ≤ length text) where
  all : length (take 32 text) ≡ 32
  all = length-take-le 32 text long

  -- the bit of each place is set
  pub all_set : (k : ℕ) → k < 32 → get_or text k 0 ≡ byte → bit_at (places_in byte text) k ≡ 1
  all_set k under here =
      let at : get_or (take 32 text) k 0 ≡ byte = get_or-take 32 text k 0 under ∙ here in
      bit_mask_l (map (λ x. eqb x byte) (take 32 text)) k
      ∙ ap (λ b. cond {A = ℕ} b 1 0) (test_set (λ x. eqb x byte) (take 32 text) k (omega (arith, under, all)) (eq-eqb _ _ at))

  found : (k : ℕ) → bit_at (places_in byte text) k ≡ 1 → (k < length (take 32 text)) × (eqb (get_or (take 32 text) k 0) byte ≡ true)
  found k set =
      test_at (λ x. eqb x byte) (take 32 text) k (set_only _ (sym (bit_mask_l (map (λ x. eqb x byte) (take 32 text)) k) ∙ set))

  pub are_places : ArePlaces byte text (places_in byte text)
  are_places = record {
    each = λ k set.
        let (within, here) = found k set in
        (omega (arith, within, all, long), sym (get_or-take 32 text k 0 (omega (arith, within, all))) ∙ eqb-true _ _ here);
    all = λ k j set below here.
        let (within, there) = found k set in
        all_set j (omega (arith, within, all, below)) here;
  }

-- the text behind a place, and its first places
pub places_behind : (byte : ℕ) (text : List ℕ) (bits at rest : ℕ) → ArePlaces byte text bits
    → ((k : ℕ) → bit_at rest k ≡ bit_at bits (at + 1 + k))
    → ArePlaces byte (take (length text - (at + 1)) (drop (at + 1) text)) rest
places_behind byte text bits at rest are same = rw take_rest (record {
  each = λ k set.
      let (within, here) = are.each (at + 1 + k) (sym (same k) ∙ set) in
      (omega (arith, within, length-drop (at + 1) text), get_or-drop (at + 1) text k 0 ∙ here);
  all = λ k j set below here.
      same j ∙ are.all (at + 1 + k) (at + 1 + j) (sym (same k) ∙ set) (omega (arith, below)) (sym (get_or-drop (at + 1) text j 0) ∙ here);
})
