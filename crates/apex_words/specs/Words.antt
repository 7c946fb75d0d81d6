-- The words of a step's text, which are the parts between single spaces, their forms, and the
-- values of words of the right form.
use Rattle.std.specs.Prelude.{codes, ℕ, ◌+◌, ◌*◌, ◌%◌, ◌==◌, ◌||◌, ◌&&◌, nat_le, Bool, true, false, if◌then◌else◌, List, [], ◌∷◌, length, Option, Some, None, Result, Ok, is_some, option_and_then}
use Rattle.std.specs.Char.{digit_value, is_ascii_digit}
use Rattle.std.specs.List.{list_all, slice_split, position_from}
use Rattle.std.specs.Str.{bytes_eq}
use Rattle.apex_types.specs.declared.limits.TheConstants.{MOST_MESSAGE, MOST_SPAN}
use Rattle.apex_words.specs.Terms.{RequestedMode, Subject, TableFault, Timeout}
use Rattle.apex_types.specs.declared.calls.RequestedMode.TheVariants.{Idle, Normal}
use Rattle.apex_types.specs.declared.calls.Timeout.TheVariants.{Poll, Ticks, Infinite}
use Rattle.apex_types.specs.Numbers.{number_of, at_least, at_most}
use Rattle.apex_words.specs.declared.fault.TableFault.TheVariants.{OutOfRange, UnknownName}
use Rattle.apex_words.specs.Outcome.{made, some_or}

-- the parts between single spaces, which may be empty
abbrev pub words : List ℕ → List (List ℕ)
words text = slice_split (λ c. c == 32) text

-- a word of no byte
abbrev pub is_empty : List ℕ → Bool
is_empty [] = true
is_empty (c ∷ cs) = false

-- the form of a number: of any size, without a sign and without a leading zero
abbrev pub is_number : List ℕ → Bool
is_number word = is_some (number_of word)

-- the form of a timeout: a number of any size, or `infinite`
abbrev pub is_timeout : List ℕ → Bool
is_timeout word = bytes_eq word (codes "infinite") || is_number word

-- a number from low to high
abbrev pub number : Subject → ℕ → ℕ → List ℕ → Result ℕ TableFault
number subject low high word =
    some_or (OutOfRange subject) (at_least low (at_most high (number_of word)))

-- a timeout: `0`, 1 to 4,294,967,295 ticks, or `infinite`
abbrev pub timeout : Subject → List ℕ → Result Timeout TableFault
timeout subject word =
    if bytes_eq word (codes "0") then Ok Poll else
    if bytes_eq word (codes "infinite") then Ok Infinite else
    made Ticks (number subject 1 MOST_SPAN word)

-- the mode that a word asks for
abbrev pub requested_mode : List ℕ → Option RequestedMode
requested_mode word =
    if bytes_eq word (codes "NORMAL") then Some Normal else
    if bytes_eq word (codes "IDLE") then Some Idle else None

-- a digit of a message: 0 to 9, a to f
abbrev pub is_digit : ℕ → Bool
is_digit c = is_ascii_digit c || (nat_le 97 c && nat_le c 102)

-- the bytes that pairs of digits write
abbrev pub pairs_value : List ℕ → List ℕ
pairs_value (high ∷ low ∷ digits) = (digit_value high * 16 + digit_value low) ∷ pairs_value digits
pairs_value _ = []

-- the bytes that a word writes, by pairs of digits, or by `-` for no bytes; none if the word is no
-- message
abbrev pub bytes_of : List ℕ → Option (List ℕ)
bytes_of word =
    if bytes_eq word (codes "-") then Some [] else
    if length word % 2 == 0 && list_all is_digit word then Some (pairs_value word) else None

-- the form of a message, which may be of any length
abbrev pub is_message : List ℕ → Bool
is_message word = is_some (bytes_of word)

-- these bytes, if they are 64 at the most
abbrev pub few_bytes : List ℕ → Option (List ℕ)
few_bytes bytes = if nat_le (length bytes) MOST_MESSAGE then Some bytes else None

-- the bytes of a message, which are 64 at the most
abbrev pub message_bytes : Subject → List ℕ → Result (List ℕ) TableFault
message_bytes subject word =
    some_or (OutOfRange subject) (option_and_then few_bytes (bytes_of word))

-- the place, counted from 0, of the entry of this name
abbrev pub entry_of : Subject → List (List ℕ) → List ℕ → Result ℕ TableFault
entry_of subject names name =
    some_or (UnknownName subject) (position_from (bytes_eq name) 0 names)
