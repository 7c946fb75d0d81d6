-- The words of facts.
use Rattle.std.specs.Prelude.{ℕ, Bool, false, List, [], ◌∷◌, Option, Some, None, codes, if◌then◌else◌}
use Rattle.std.specs.Str.{bytes_eq}
use Rattle.apex_questions.specs.Facts.{all_facts}
use Rattle.apex_questions.specs.declared.facts.Fact.{Fact}
use Rattle.apex_questions.specs.declared.facts.Fact.TheVariants.{Missed, HardMissed, TimedOut, Lost, Ended, Refused, Response, Standstill}
use Rattle.apex_types.specs.declared.entries.ReturnCode.{ReturnCode}
use Rattle.apex_types.specs.declared.entries.ReturnCode.TheVariants as answer

-- the word of a code with which services refuse a call
abbrev pub word_of_code : ReturnCode → Option (List ℕ)
word_of_code answer.NoAction = Some (codes "NO_ACTION")
word_of_code answer.NotAvailable = Some (codes "NOT_AVAILABLE")
word_of_code answer.InvalidParam = Some (codes "INVALID_PARAM")
word_of_code answer.InvalidConfig = Some (codes "INVALID_CONFIG")
word_of_code answer.InvalidMode = Some (codes "INVALID_MODE")
word_of_code _ = None

-- the word of a fact; a response has none, since there is one for each number of ticks
abbrev pub word_of : Fact → Option (List ℕ)
word_of Missed = Some (codes "missed")
word_of HardMissed = Some (codes "hard")
word_of TimedOut = Some (codes "TIMED_OUT")
word_of Lost = Some (codes "LOST")
word_of Ended = Some (codes "end")
word_of Standstill = Some (codes "standstill")
word_of (Refused code) = word_of_code code
word_of (Response ticks) = None

-- the texts are the same
abbrev pub is_word : List ℕ → Option (List ℕ) → Bool
is_word text None = false
is_word text (Some word) = bytes_eq text word

-- the first of these facts that has this word
abbrev pub fact_among : List Fact → List ℕ → Option Fact
fact_among [] word = None
fact_among (fact ∷ facts) word =
    if is_word word (word_of fact) then Some fact else fact_among facts word

-- the fact that a word names
abbrev pub fact_of : List ℕ → Option Fact
fact_of word = fact_among all_facts word
