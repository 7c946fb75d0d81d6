-- Decimal numbers, without a sign and without a leading zero.
use Rattle.std.specs.Prelude.{ℕ, ◌+◌, ◌-◌, ◌*◌, ◌^◌, Bool, List, [], ◌∷◌, Option, Some, None, length, slice_index}
use Rattle.std.specs.Prelude.{◌==◌, ◌&&◌, ◌||◌, nat_lt, nat_le, if◌then◌else◌, option_and_then}
use Rattle.std.specs.Str.{all_ascii_digits}

-- the number that digits write, each by its place
abbrev pub digits_value : List ℕ → ℕ
digits_value [] = 0
digits_value (digit ∷ rest) = (digit - 48) * 10 ^ length rest + digits_value rest

-- the first of several digits is 0
abbrev pub has_leading_zero : List ℕ → Bool
has_leading_zero word = nat_lt 1 (length word) && slice_index word 0 == 48

-- the number that a word writes; none if the word is no number
abbrev pub number_of : List ℕ → Option ℕ
number_of word =
    if length word == 0 || has_leading_zero word then None
    else if all_ascii_digits word then Some (digits_value word) else None

-- the number, if it is at most `most`
abbrev pub at_most : ℕ → Option ℕ → Option ℕ
at_most most = option_and_then (λ n. if nat_le n most then Some n else None)

-- the number, if it is at least `least`
abbrev pub at_least : ℕ → Option ℕ → Option ℕ
at_least least = option_and_then (λ n. if nat_le least n then Some n else None)
