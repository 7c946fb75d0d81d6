-- The text of strings of JSON (RFC 8259, section 7), and what a reader takes from it.
use Rattle.std.specs.Prelude.{◌≡◌, ℕ, ◌+◌, ◌*◌, ◌/◌, ◌%◌, List, [], ◌∷◌, ◌++◌, ◌==◌, ◌&&◌, ◌||◌, nat_le, nat_lt, Option, None, Some, encode_utf8, flat_map, if◌then◌else◌, option_and_then, option_map}
use Rattle.std.specs.Char.{digit_char, digit_value, is_digit}

-- A byte in a string: `"` (34) and `\` (92) have a `\` before them, and a control byte is `\u00` with
-- its two hex digits.
abbrev pub json_byte : ℕ → List ℕ
json_byte byte =
    if byte == 34 || byte == 92 then 92 ∷ byte ∷ []
    else if nat_lt byte 32
    then 92 ∷ 117 ∷ 48 ∷ 48 ∷ digit_char (byte / 16) ∷ digit_char (byte % 16) ∷ []
    else byte ∷ []

-- bytes in a string, without its quotes
abbrev pub json_text : List ℕ → List ℕ
json_text bytes = flat_map json_byte bytes

-- where a reader is in a string
pub data Place : Type 0 where
  -- between two bytes or escapes
  between : Place
  -- behind a `\`
  behind_mark : Place
  -- behind a `\u`
  behind_unit : Place

-- the byte that `\` and this one stand for
abbrev pub escaped_byte : ℕ → Option ℕ
escaped_byte byte =
    if byte == 34 || byte == 92 || byte == 47 then Some byte
    else if byte == 98 then Some 8
    else if byte == 102 then Some 12
    else if byte == 110 then Some 10
    else if byte == 114 then Some 13
    else if byte == 116 then Some 9 else None

-- the character of these four hex digits; a half of a pair is none
unfoldable pub unit_of : ℕ → ℕ → ℕ → ℕ → Option ℕ
unit_of a b c d =
    let unit =
    digit_value a * 4096 + digit_value b * 256 + digit_value c * 16 + digit_value d in
    if is_digit a 16 && is_digit b 16 && is_digit c 16 && is_digit d 16
    then (if nat_le 0xd800 unit && nat_lt unit 0xe000 then None else Some unit) else None

-- what was read, and the text behind it
abbrev pub Read : Type 0
Read = Option (List ℕ × List ℕ)

-- these bytes were read before
abbrev pub read_behind : List ℕ → Read → Read
read_behind bytes read = option_map (λ found. (bytes ++ found.0, found.1)) read

-- The bytes that a reader takes from a string, whose text goes on up to `"` (34), and the text behind it.
-- None if that is no string; pairs of units are left out.
unfoldable pub json_read : Place → List ℕ → Read
json_read place [] = None
json_read between (byte ∷ rest) =
    if byte == 34 then Some ([], rest)
    else if byte == 92 then json_read behind_mark rest
    else if nat_lt byte 32 then None else read_behind (byte ∷ []) (json_read between rest)
json_read behind_mark (byte ∷ rest) =
    if byte == 117 then json_read behind_unit rest
    else option_and_then (λ read. read_behind (read ∷ []) (json_read between rest))
    (escaped_byte byte)
json_read behind_unit (a ∷ b ∷ c ∷ d ∷ rest) =
    option_and_then (λ unit. read_behind (encode_utf8 unit) (json_read between rest))
    (unit_of a b c d)
json_read behind_unit rest = None

-- a reader takes every string back as it is, up to its closing quote
abbrev pub AreReadBack : Type 0
AreReadBack = (bytes rest : List ℕ)
    → json_read between (json_text bytes ++ 34 ∷ rest) ≡ Some (bytes, rest)
