-- A line as it is shown, so that each of its bytes can be seen.
use Rattle.std.specs.Prelude.{ℕ, ◌+◌, Bool, ◌==◌, ◌&&◌, nat_le, if◌then◌else◌, List, [], ◌∷◌, ◌++◌, codes}
use Rattle.std.specs.List.{common_prefix_len, list_all}
use Rattle.apex_machine.specs.text.Texts.{byte_text}
use Rattle.apex_departures.specs.declared.putting.TheConstants.{FIRST_PLAIN, LAST_PLAIN}

-- a byte that is seen as it is
abbrev pub is_plain : ℕ → Bool
is_plain byte = nat_le FIRST_PLAIN byte && nat_le byte LAST_PLAIN

-- `\x` and the two digits of a byte
abbrev pub escaped : ℕ → List ℕ
escaped byte = codes "\\x" ++ byte_text byte

-- all bytes are spaces
abbrev pub are_spaces : List ℕ → Bool
are_spaces line = list_all (λ byte. byte == 32) line

-- a byte of a line; a space at the line's end is escaped too
abbrev pub shown_byte : Bool → ℕ → List ℕ
shown_byte ends byte =
    if ends then escaped byte else if is_plain byte then byte ∷ [] else escaped byte

-- a line
abbrev pub shown : List ℕ → List ℕ
shown [] = []
shown (byte ∷ rest) = shown_byte (are_spaces (byte ∷ rest)) byte ++ shown rest

-- the number, counted from 1, of the first byte in which two lines differ; if the one begins with
-- the other, of the first byte behind that
abbrev pub column : List ℕ → List ℕ → ℕ
column one other = common_prefix_len ◌==◌ one other + 1
