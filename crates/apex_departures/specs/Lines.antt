-- A text by its parts between the line feeds: its lines, and last what stands behind the last line
-- feed, which is no line. Comments are left out behind the separator.
use Rattle.std.specs.Prelude.{ℕ, zero, suc, ◌+◌, ◌-◌, ◌^◌, min, Bool, true, ◌==◌, ◌&&◌, if◌then◌else◌, List, [], ◌∷◌, ◌++◌, Option, None, Some, slice_index_or}
use Rattle.std.specs.Str.{bytes_eq}
use Rattle.apex_history.specs.Words.{parts}
use Rattle.apex_check.specs.Texts.{separator}
use Rattle.apex_incoming.specs.Lines.{ended}

-- the lines of a text, and what stands behind them
abbrev pub line_parts : List ℕ → List (List ℕ)
line_parts text = parts 10 text

-- a comment is a line that is empty or begins with `#`
abbrev pub is_comment : List ℕ → Bool
is_comment [] = true
is_comment (byte ∷ rest) = byte == 35

-- a comment is left out if comments are
abbrev pub is_left_out : Bool → List ℕ → Bool
is_left_out comments line = comments && is_comment line

-- the text of a line, unless it is left out
abbrev pub kept_text : Bool → List ℕ → List ℕ
kept_text comments line = if is_left_out comments line then [] else ended line

-- the text of a history's lines without those that are left out
abbrev pub history_text : Bool → List (List ℕ) → List ℕ
history_text comments [] = []
history_text comments (last ∷ []) = last
history_text comments (line ∷ next ∷ others) =
    kept_text comments line ++ history_text comments (next ∷ others)

-- the text of a table's lines, of the separator, and of the lines behind it without those that are
-- left out
abbrev pub text_without : Bool → List (List ℕ) → List ℕ
text_without comments [] = []
text_without comments (last ∷ []) = last
text_without comments (line ∷ next ∷ others) =
    ended line
    ++ (if bytes_eq line separator then history_text comments (next ∷ others)
    else text_without comments (next ∷ others))

-- the text that is followed
abbrev pub followed_text : Bool → List ℕ → List ℕ
followed_text comments text = text_without comments (line_parts text)

-- the parts behind the first line that is the separator; an empty one if there is none
abbrev pub behind_separator : List (List ℕ) → List (List ℕ)
behind_separator [] = [] ∷ []
behind_separator (last ∷ []) = [] ∷ []
behind_separator (line ∷ next ∷ others) =
    if bytes_eq line separator then next ∷ others else behind_separator (next ∷ others)

-- the parts of a text's history as it was given
abbrev pub given_parts : List ℕ → List (List ℕ)
given_parts text = behind_separator (line_parts text)

-- how many of the lines that are not left out are to be passed behind this one; none if this is the
-- one
abbrev pub one_less : ℕ → Option ℕ
one_less zero = None
one_less (suc n) = Some n

abbrev pub more_behind : Bool → List ℕ → ℕ → Option ℕ
more_behind comments line n = if is_left_out comments line then Some n else one_less n

-- the place of a line, counted from 0, by how many are to be passed behind the first one
abbrev pub place_on : (ℕ → ℕ) → Option ℕ → ℕ
place_on place None = 0
place_on place (Some more) = suc (place more)

-- the place, among all parts, of the one that has this place among those that are not left out; the
-- last part is never left out
abbrev pub place_given : Bool → List (List ℕ) → ℕ → ℕ
place_given comments [] n = 0
place_given comments (last ∷ []) n = 0
place_given comments (line ∷ next ∷ others) n =
    place_on (place_given comments (next ∷ others)) (more_behind comments line n)

-- the part at this place among those that are not left out
abbrev pub part_given : Bool → List (List ℕ) → ℕ → List ℕ
part_given comments given n = slice_index_or given (place_given comments given n) []

-- the greatest number of a line that is shown
abbrev pub most_number : ℕ
most_number = 2 ^ 32 - 1

-- the number, among all lines, of the line that has this number among those that are not left out;
-- both are counted from 1, and a greater number than the greatest is shown as that
abbrev pub number_given : Bool → List (List ℕ) → ℕ → ℕ
number_given comments given n = min (place_given comments given (n - 1) + 1) most_number
