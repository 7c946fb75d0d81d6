-- The word that was meant, if one is near to the word that is given.
use Rattle.std.specs.Prelude.{ℕ, ◌/◌, ◌*◌, nat_le, nat_lt, nat_eq, if◌then◌else◌, List, length, fold, Option, Some, None}
use Rattle.std.specs.Str.{chars}
use Rattle.strsim.specs.Edits.{levenshtein_row}

-- the edits that lead from one word to the other: each inserts, removes or replaces a character
abbrev pub edits : List ℕ → List ℕ → ℕ
edits word other = levenshtein_row nat_eq (chars word) (chars other) (length (chars other))

-- a word is near if half as many edits as the given word has bytes lead to it, or fewer
abbrev pub near : List ℕ → List ℕ → Option (List ℕ)
near word other = if nat_le (2 * edits word other) (length word) then Some other else None

-- the nearer one of the nearest word so far and another word; of two that are as near, the first one
abbrev pub nearer : List ℕ → Option (List ℕ) → List ℕ → Option (List ℕ)
nearer word None other = near word other
nearer word (Some best) other =
    if nat_lt (edits word other) (edits word best) then Some other else Some best

-- the nearest one of these words, if one is near
abbrev pub nearest : List ℕ → List (List ℕ) → Option (List ℕ)
nearest word others = fold (nearer word) None others
