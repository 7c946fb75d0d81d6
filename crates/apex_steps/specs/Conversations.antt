-- A conversation: the lines of a text, what is said on them, and what is heard next.
use Rattle.std.specs.Prelude.{◌≡◌, ◌<◌, ◌≤◌, ℕ, Bool, List, [], ◌∷◌, ◌++◌, length, Option, Some, None, Result, Ok, MatchResult, if◌then◌else◌}
use Rattle.std.specs.Io.KnownBytes.{Consumes}
use Rattle.apex_json.specs.declared.Form.{Form}
use Rattle.apex_incoming.specs.Ahead.{IsAhead}
use Rattle.apex_incoming.specs.Lines.{IsOneLine, ended}
use Rattle.apex_history.specs.Counted.{one_more}
use Rattle.apex_history.specs.Words.{parts}
use Rattle.apex_steps.specs.Answers.{answer, unended}
use Rattle.apex_steps.specs.Texts.{answer_text}
use Rattle.apex_steps.specs.Sessions.{Session}
use Rattle.apex_steps.specs.declared.answers.Answered.{Answered}
use Rattle.apex_steps.specs.declared.faults.StepFault.{StepFault}
use Rattle.apex_steps.specs.declared.faults.StepFault.TheVariants.{Memory, Read}

-- what is said on the bytes behind the last line feed: they are no line
abbrev pub said_of_rest : Form → List ℕ → Session → List ℕ
said_of_rest form [] session = []
said_of_rest form (byte ∷ bytes) session = answer_text form (unended session)

-- what is said on lines in this form, each by its answer, up to the one that ends the session; the
-- last of the parts is behind the last line feed
abbrev pub said_on : Form → List (List ℕ) → Session → List ℕ
said_on form [] session = []
said_on form (rest ∷ []) session = said_of_rest form rest session
said_on form (line ∷ next ∷ parts) session =
    answer_text form (answer line session)
    ++ (if (answer line session).is_last then []
    else said_on form (next ∷ parts) (answer line session).session)

-- what is said on a text, whose lines end with a line feed (10)
abbrev pub said : Form → List ℕ → Session → List ℕ
said form text session = said_on form (parts 10 text) session

-- a line of `least` bytes or more is taken, with its line feed if it has one
pub record Skips (is_ended : Bool) (least : ℕ) (old new : Option (List ℕ)) : Type 0 where
  pub line : List ℕ
  pub one : IsOneLine line
  pub long : least ≤ length line
  pub taken : Consumes old new (if is_ended then ended line else line)

-- what is heard next, and the answer to it: a line, which is taken, or bytes at the end that are
-- none
pub data Hears (before : Session) (left rest : Option (List ℕ)) (answered : Answered) : Type 0 where
  a_line : (line : List ℕ) → IsOneLine line → Consumes left rest (ended line)
      → answered ≡ answer line before → Hears before left rest answered
  no_line : (bytes : List ℕ) → IsOneLine bytes → 0 < length bytes → IsAhead bytes left
      → answered ≡ unended before → Hears before left rest answered

-- the same, if anything is still to come
abbrev pub HearsNext : Session → Option (List ℕ) → Option (List ℕ) → Option Answered → Type 0
HearsNext before left rest None = IsAhead [] left
HearsNext before left rest (Some answered) = Hears before left rest answered

-- a fault before an answer is written: a failed read, which is counted, or want of memory
abbrev pub CountsReading : StepFault → ℕ → ℕ → Type 0
CountsReading Read old new = new ≡ one_more old
CountsReading Memory old new = new ≡ old
CountsReading fault old new = ⊥

-- the same of what is heard
abbrev pub CountsRead : {T : Type 0} → Result T StepFault → ℕ → ℕ → Type 0
CountsRead result old new =
    MatchResult result (λ _. new ≡ old) (λ fault. CountsReading fault old new)

-- the writer's last call was a flush that did not fail
abbrev pub IsFlushed : {W E : Type 0} → (W → Result (Unit {0}) E → W → Type 0) → W → Type 0
IsFlushed {W} drains after = (before : W) × drains before (Ok tt) after
