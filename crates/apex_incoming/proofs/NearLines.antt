-- A line feed that is found by the places of line feeds.
use Rattle.std.proofs.Common.{◌≡◌, ◌∙◌, ℕ, ◌+◌, ◌-◌, ◌<◌, ◌≤◌, List, length, get_or, drop, take, Some, sym, ap, arith, inl, inr, eqb-true}
use Rattle.std.specs.Int.{bit_at}
use Rattle.std.proofs.lemmas.Bool.{cases_lt, eq-eqb}
use Rattle.std.proofs.lemmas.List.{get_or-drop, length-drop, take_rest}
use Rattle.memchr.specs.Find.{IsFirstByte, is_byte}
use Rattle.apex_incoming.specs.Ahead.{IsFirstLine}
use Rattle.apex_incoming.specs.Places.{ArePlaces}
use Rattle.apex_incoming.proofs.FirstLines.{first_feed}
use Rattle.apex_incoming.proofs.LineFeeds.{first_place}

-- no byte before this place is a line feed
abbrev pub IsPassed : List ℕ → ℕ → Type 0
IsPassed bytes at = (k : ℕ) → k < at → get_or bytes k 0 ≡ 10 → ⊥

-- a byte behind this place
behind : (bytes : List ℕ) (at k : ℕ) → at ≤ k → get_or bytes k 0 ≡ 10 → get_or (drop at bytes) (k - at) 0 ≡ 10
behind bytes at k after here =
    let same : at + (k - at) ≡ k = omega (arith, after) in
    get_or-drop at bytes (k - at) 0 ∙ ap (λ j. get_or bytes j 0) same ∙ here

no_bit : (k : ℕ) → bit_at 0 k ≡ 1 → ⊥
no_bit k set = omega (arith, set)

-- the next 32 bytes have no line feed
pub passed_more : (bytes : List ℕ) (at bits : ℕ) → IsPassed bytes at → bits ≡ 0
    → ((k : ℕ) → k < 32 → get_or (take (length bytes - at) (drop at bytes)) k 0 ≡ 10 → bit_at bits k ≡ 1)
    → IsPassed bytes (at + 32)
passed_more bytes at bits passed none all = λ k under here. elim (cases_lt k at) [
  | inl before ↦ passed k before here
  | inr after ↦
      let set : bit_at bits (k - at) ≡ 1 = all (k - at) (omega (arith, under, after)) (rw take_rest (behind bytes at k after here)) in
      no_bit (k - at) (rw none at set)
]

-- the first line ends at the first place
pub near_is : (bytes : List ℕ) (at l bits : ℕ) → IsPassed bytes at → ArePlaces 10 (take (length bytes - at) (drop at bytes)) bits
    → bit_at bits l ≡ 1 → ((k : ℕ) → k < l → bit_at bits k ≡ 0) → IsFirstLine (at + l) bytes
near_is bytes at l bits passed given set below =
    let are : ArePlaces 10 (drop at bytes) bits = rw take_rest at given in
    let (within, there) = are.each l set in
    let here : get_or bytes (at + l) 0 ≡ 10 = sym (get_or-drop at bytes l 0) ∙ there in
    let first : IsFirstByte (is_byte 10) bytes (Some (at + l)) = (
      record {
        low = omega arith;
        high = omega (arith, within, length-drop at bytes);
        before = λ k from under is. elim (cases_lt k at) [
          | inl before ↦ passed k before (eqb-true _ _ is)
          | inr after ↦
              let earlier = are.all l (k - at) set (omega (arith, under, after)) (behind bytes at k after (eqb-true _ _ is)) in
              omega (arith, earlier, below (k - at) (omega (arith, under, after)))
        ];
      },
      eq-eqb _ _ here,
    ) in
    first_feed bytes (at + l) (sym (first_place bytes (Some (at + l)) first))
