-- The first byte that is a line feed, as the library `memchr` says it.
use Rattle.std.proofs.Common.{◌≡◌, ◌∙◌, ℕ, List, length, Option, None, Some, refl, sym, ap, arith}
use Rattle.std.proofs.lemmas.Bool.{cond_above, cond_below, false_from_ne_true}
use Rattle.std.proofs.lemmas.List.Sums.{position_or_len_is}
use Rattle.std.specs.List.{position, position_or_len}
use Rattle.memchr.specs.Find.{IsFirstByte, is_byte}
use Rattle.apex_incoming.specs.Lines.{is_line_feed}

pub first_place : (bytes : List ℕ) (r : Option ℕ) → IsFirstByte (is_byte 10) bytes r → r ≡ position is_line_feed bytes
first_place bytes None nowhere =
    let past : position_or_len is_line_feed bytes ≡ length bytes =
    position_or_len_is is_line_feed bytes (length bytes) 0 (omega arith)
    (λ k below. false_from_ne_true _ (nowhere k (omega arith) below)) (λ below. absurd (omega (arith, below))) in
    cond_above (position_or_len is_line_feed bytes) (length bytes) (Some (position_or_len is_line_feed bytes)) None None (omega (arith, past)) refl
first_place bytes (Some i) (none, here) =
    let at : position_or_len is_line_feed bytes ≡ i =
    position_or_len_is is_line_feed bytes i 0 (omega (arith, none.high))
    (λ k below. false_from_ne_true _ (none.before k (omega arith) below)) (λ below. here) in
    ap Some (sym at)
    ∙ cond_below (position_or_len is_line_feed bytes) (length bytes) (Some (position_or_len is_line_feed bytes)) None (omega (arith, at, none.high))
