-- What a census says, and its text.
use Rattle.std.specs.Prelude.{◌≡◌, ℕ, List, [], ◌∷◌, ◌++◌, codes, decimal, flat_map, length, Option, None, Some}
use Rattle.apex_search.specs.Census.{IsCensus}
use Rattle.apex_search.specs.Steps.{Searched}
use Rattle.apex_search.specs.declared.census.Census.{Census}
use Rattle.apex_search.specs.declared.census.End.{End}
use Rattle.apex_search.specs.declared.census.End.TheVariants.{Closed, Full}
use Rattle.apex_search.specs.declared.census.Finding.{Finding}
use Rattle.apex_questions.specs.declared.Fact.{Fact}
use Rattle.apex_answers.specs.Answers.{SearchEnd, finds, is_full, never}
use Rattle.apex_answers.specs.Texts.{states_text, within_text}
use Rattle.apex_questions.specs.Words.{word_of}

-- the word, or `-` if there is none
abbrev pub or_dash : Option (List ℕ) → List ℕ
or_dash None = codes "-"
or_dash (Some word) = word

-- the word of a fact, or `-` if it has none
abbrev pub word_or_dash : Fact → List ℕ
word_or_dash fact = or_dash (word_of fact)

-- the number of the entry of a finding, and its fact
abbrev pub finding_line : Finding → List ℕ
finding_line finding =
    decimal (length finding.path.items) ++ codes " " ++ word_or_dash finding.fact ++ codes "\n"

-- the number of states, if no schedule leads to one of the facts that were not found; or else that no
-- schedule of at most this many events does, and the room for states
abbrev pub end_text : ℕ → End → List ℕ
end_text room (Closed states) = states_text states
end_text room (Full depth) = within_text depth ++ states_text room

-- the findings in their order, and what the end says of the other facts
abbrev pub census_text : ℕ → Census → List ℕ
census_text room census = flat_map finding_line census.found.items ++ end_text room census.end

-- how a search for all facts ends: with or without a finding, or with its room used up
abbrev pub ended : ℕ → List Finding → End → SearchEnd
ended room [] (Closed states) = never
ended room (finding ∷ others) (Closed states) = finds
ended room found (Full depth) = is_full room

abbrev pub census_end : ℕ → Census → SearchEnd
census_end room census = ended room census.found.items census.end

-- the text that a search for all facts, with room for this many states, may answer, and its end
pub record SaysCensus (system : Searched) (room : ℕ) (text : List ℕ) (end : SearchEnd) : Type 0
  where
    pub census : Census
    pub is : IsCensus system room census
    pub text_is : text ≡ census_text room census
    pub end_is : end ≡ census_end room census
