-- What is said so far, and on the bytes that are left.
use Rattle.std.proofs.Common.{◌≡◌, ◌∙◌, ℕ, ◌<◌, false, arith, refl, sym, ap, List, [], ◌∷◌, ◌++◌, length, append_assoc}
use Rattle.std.specs.Prelude.{if◌then◌else◌}
use Rattle.apex_json.specs.declared.Form.{Form}
use Rattle.apex_incoming.specs.Lines.{IsOneLine, ended}
use Rattle.apex_steps.specs.Answers.{answer, unended}
use Rattle.apex_steps.specs.Texts.{answer_text}
use Rattle.apex_steps.specs.Conversations.{said}
use Rattle.apex_steps.specs.Sessions.{Session}
use Rattle.apex_steps.proofs.Parts.{line_first, one_part, some_part}

-- on these bytes this was written, and the session that is left goes on with the bytes behind them
abbrev pub HasSaid : (form : Form) → Session → List ℕ → List ℕ → Session → Type 0
HasSaid form first taken written session =
    (rest : List ℕ) → said form (taken ++ rest) first ≡ written ++ said form rest session

-- what is said on a line and the bytes behind it
pub said_line : (form : Form) → (line rest : List ℕ) (session : Session) → IsOneLine line
    → said form (ended line ++ rest) session
    ≡ answer_text form (answer line session) ++ (if (answer line session).is_last then [] else said form rest (answer line session).session)
said_line form line rest session one =
    let more = some_part 10 rest in
    rw (line_first line rest one, more.are) refl

-- what is said on bytes without a line feed
pub said_end : (form : Form) → (bytes : List ℕ) (session : Session) → IsOneLine bytes → 0 < length bytes → said form bytes session ≡ answer_text form (unended session)
said_end form [] session one some = absurd (omega (arith, some))
said_end form (byte ∷ bytes) session one some = rw (one_part (byte ∷ bytes) one) refl

-- nothing was said yet
pub said_none : (form : Form) → (session : Session) → HasSaid form session [] [] session
said_none form session rest = refl

-- one line more
pub said_more : (form : Form) → (first session : Session) (taken written line : List ℕ) → HasSaid form first taken written session → IsOneLine line
    → (answer line session).is_last ≡ false
    → HasSaid form first (taken ++ ended line) (written ++ answer_text form (answer line session)) (answer line session).session
said_more form first session taken written line has one goes_on rest =
    ap (λ l. said form l first) (append_assoc taken (ended line) rest)
    ∙ has (ended line ++ rest)
    ∙ ap (λ l. written ++ l) (rw goes_on at (said_line form line rest session one))
    ∙ sym (append_assoc written (answer_text form (answer line session)) (said form rest (answer line session).session))
