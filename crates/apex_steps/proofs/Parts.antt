-- The parts of a text between line feeds, and of a line between spaces.
use Rattle.std.proofs.Common.{◌≡◌, ℕ, Bool, true, false, arith, refl, ap, List, [], ◌∷◌, ◌++◌, length, cond, None}
use Rattle.std.specs.Prelude.{◌==◌}
use Rattle.std.proofs.lemmas.List.Splits.{length-slice_split}
use Rattle.apex_history.specs.Words.{parts}
use Rattle.apex_incoming.specs.Lines.{IsOneLine, ended, is_line_feed}
use Rattle.apex_steps.specs.Commands.{command_of_words}
use Rattle.apex_incoming.proofs.FirstLines.{feeds_cons}

-- a first byte that is no line feed, and the rest of its line
one_byte : (x : ℕ) (xs : List ℕ) → IsOneLine (x ∷ xs) → ((x == 10) ≡ false) × IsOneLine xs
one_byte x xs one = go (x == 10) refl
  where
    go : (b : Bool) → (x == 10) ≡ b → ((x == 10) ≡ false) × IsOneLine xs
    go true t =
        let some : ◌≡◌ {A = ℕ} (cond (is_line_feed x) 1 0) 1 = rw t refl in
        absurd (omega (arith, one, feeds_cons x xs, some))
    go false t =
        let none : ◌≡◌ {A = ℕ} (cond (is_line_feed x) 1 0) 0 = rw t refl in
        (t, omega (arith, one, feeds_cons x xs, none))

-- a line is the first part, and the others are those of the bytes behind it
pub line_first : (line rest : List ℕ) → IsOneLine line → parts 10 (ended line ++ rest) ≡ line ∷ parts 10 rest
line_first [] rest one = refl
line_first (x ∷ xs) rest one =
    let (other, more) = one_byte x xs one in
    rw (other, line_first xs rest more) refl

-- bytes without a line feed are one part
pub one_part : (bytes : List ℕ) → IsOneLine bytes → parts 10 bytes ≡ bytes ∷ []
one_part [] one = refl
one_part (x ∷ xs) one =
    let (other, more) = one_byte x xs one in
    rw (other, one_part xs more) refl

-- there is a first part
pub record HasParts (separator : ℕ) (bytes : List ℕ) : Type 0 where
  pub first : List ℕ
  pub others : List (List ℕ)
  pub are : parts separator bytes ≡ first ∷ others

pub some_part : (separator : ℕ) (bytes : List ℕ) → HasParts separator bytes
some_part separator bytes = go (parts separator bytes) refl
  where
    go : (ps : List (List ℕ)) → parts separator bytes ≡ ps → HasParts separator bytes
    go [] e =
        let none : length (parts separator bytes) ≡ 0 = ap length e in
        absurd (omega (arith, none, length-slice_split (λ byte. byte == separator) bytes))
    go (first ∷ others) e = record { first = first; others = others; are = e }

-- three words and more are no command
pub no_command : (word name bytes : List ℕ) → command_of_words (word ∷ name ∷ parts 32 bytes) ≡ None
no_command word name bytes = rw (some_part 32 bytes).are refl
