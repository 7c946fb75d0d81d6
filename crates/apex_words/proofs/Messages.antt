-- The number of bytes that pairs of digits write, and the refusal of too many.
use Rattle.std.proofs.Common.{◌≡◌, ℕ, ◌/◌, ◌%◌, ◌<◌, ◌==◌, ◌&&◌, nat_le, true, false, List, [], ◌∷◌, length, Err, refl, arith}
use Rattle.std.specs.Prelude.{codes}
use Rattle.std.specs.List.{list_all}
use Rattle.std.specs.Str.{bytes_eq}
use Rattle.std.proofs.lemmas.Bool.Decides.{nat_tests}
use Rattle.apex_types.specs.declared.limits.TheConstants.{MOST_MESSAGE}
use Rattle.apex_words.specs.Terms.{Subject}
use Rattle.apex_words.specs.declared.fault.TableFault.TheVariants.{OutOfRange}
use Rattle.apex_words.specs.Words.{is_digit, pairs_value, message_bytes}

pub count_of_pairs : (digits : List ℕ) → length (pairs_value digits) ≡ length digits / 2
count_of_pairs [] = refl
count_of_pairs (c ∷ []) = refl
count_of_pairs (high ∷ low ∷ digits) = omega (arith, count_of_pairs digits)

pub too_many_bytes : (subject : Subject) (word : List ℕ) → bytes_eq word (codes "-") ≡ false → (length word % 2 == 0 && list_all is_digit word) ≡ true → MOST_MESSAGE < length word / 2 → message_bytes subject word ≡ Err (OutOfRange subject)
too_many_bytes subject word no_mark pairs many =
    let count : length (pairs_value word) ≡ length word / 2 = count_of_pairs word in
    let test : nat_le (length (pairs_value word)) MOST_MESSAGE ≡ false = grind (arith, nat_tests) in
    rw (no_mark, pairs, test) refl
