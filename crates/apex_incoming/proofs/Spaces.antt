-- The words between the spaces of a text.
use Rattle.std.proofs.Common.{◌≡◌, ℕ, ◌+◌, ◌-◌, ◌<◌, arith, List, ◌∷◌, length, get_or, take, drop}
use Rattle.std.specs.Int.{bit_at}
use Rattle.std.proofs.lemmas.Bool.{eq-eqb, ne_eqb}
use Rattle.std.proofs.lemmas.List.{take_rest}
use Rattle.std.specs.List.{position_or_len}
use Rattle.std.proofs.lemmas.List.Splits.{slice_split_first}
use Rattle.std.proofs.lemmas.List.Sums.{position_or_len_is}
use Rattle.std.specs.Prelude.{◌==◌}
use Rattle.apex_history.specs.Words.{parts}
use Rattle.apex_incoming.specs.Places.{ArePlaces}

-- the first word, before the first space
pub words_cut : (text : List ℕ) (bits at : ℕ) → ArePlaces 32 text bits → bit_at bits at ≡ 1 → ((k : ℕ) → k < at → bit_at bits k ≡ 0)
    → parts 32 text ≡ take at text ∷ parts 32 (take (length text - (at + 1)) (drop (at + 1) text))
words_cut text bits at are set below =
    let (within, here) = are.each at set in
    let first : position_or_len (λ byte. byte == 32) text ≡ at =
    position_or_len_is (λ byte. byte == 32) text at 0 (omega (arith, within))
    (λ k before. ne_eqb (get_or text k 0) 32 (λ space. omega (arith, are.all at k set before space, below k before)))
    (λ inside. eq-eqb _ _ here) in
    rw take_rest (rw first at (slice_split_first (λ byte. byte == 32) text 0 (omega (arith, first, within))))
