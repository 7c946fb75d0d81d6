-- A report in lines has a line feed for each remark.
use Rattle.std.proofs.Common.{◌≡◌, ◌∙◌, ℕ, ◌==◌, Bool, false, List, [], ◌∷◌, ap, arith, length, length-append, map, refl}
use Rattle.std.proofs.lemmas.List.Elements.{filter-append}
use Rattle.std.specs.List.{filter}
use Rattle.apex_lint.specs.Reports.{HasALineForEach, line_text, lines_text, plain_line, shown_byte}

abbrev is_feed : ℕ → Bool
is_feed byte = byte == 10

abbrev feeds : List ℕ → ℕ
feeds text = length (filter is_feed text)

no_feed : (byte : ℕ) → is_feed (shown_byte byte) ≡ false
no_feed byte = grind arith

none_shown : (text : List ℕ) → filter is_feed (map shown_byte text) ≡ []
none_shown [] = refl
none_shown (byte ∷ bytes) = rw (no_feed byte) (none_shown bytes)

one_each : (text : List ℕ) → feeds (plain_line text) ≡ 1
one_each text = rw (filter-append is_feed (map shown_byte text) (10 ∷ []), none_shown text) refl

pub for_each : HasALineForEach
for_each file [] = refl
for_each file (remark ∷ remarks) =
    let first = plain_line (line_text file remark) in
    let rest = lines_text file remarks in
    ap length (filter-append is_feed first rest)
    ∙ length-append (filter is_feed first) (filter is_feed rest)
    ∙ omega (arith, one_each (line_text file remark), for_each file remarks)
