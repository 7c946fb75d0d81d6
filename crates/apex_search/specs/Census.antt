-- A census: which of the facts that are asked for can happen, and how soon.
use Rattle.std.specs.Prelude.{◌≡◌, ◌≢◌, ◌≤◌, ◌⊎◌, ℕ, AllPairs, not, List, [], ◌∷◌, length}
use Rattle.std.specs.List.{filter}
use Rattle.apex_explore.specs.Paths.{IsHit}
use Rattle.apex_explore.specs.Searches.{IsOver, IsSearched}
use Rattle.apex_explore.specs.declared.answers.Answer.{Answer}
use Rattle.apex_explore.specs.declared.answers.Answer.TheVariants.{Found}
use Rattle.apex_explore.specs.declared.searches.Search.{Search}
use Rattle.apex_search.specs.Answers.{HasStates, IsRoomUsedUp, IsShortestSchedule, NoSchedule, NoScheduleWithin}
use Rattle.apex_questions.specs.Facts.{is_fact}
use Rattle.apex_recall.specs.Formed.{IsForm}
use Rattle.apex_search.specs.Steps.{IsWorkplace, Searched, makes, search_start}
use Rattle.apex_forms.specs.Stored.{word_count}
use Rattle.apex_search.specs.Terms.{Fact}
use Rattle.apex_search.specs.declared.census.Census.{Census}
use Rattle.apex_search.specs.declared.census.End.{End}
use Rattle.apex_search.specs.declared.census.End.TheVariants as ends
use Rattle.apex_search.specs.declared.census.Finding.{Finding}
use Rattle.apex_search.specs.declared.systems.Workplace.{Workplace}

-- the fact is one of these
abbrev pub IsOneOf : Fact → List Fact → Type 0
IsOneOf fact [] = ⊥
IsOneOf fact (other ∷ others) = (fact ≡ other) ⊎ IsOneOf fact others

-- the facts but for this one
abbrev pub without : Fact → List Fact → List Fact
without fact facts = filter (λ other. not (is_fact fact other)) facts

-- the same system with a question for these facts
abbrev pub asking : Searched → List Fact → Searched
asking system facts = record system { question = record system.question { facts = facts } }

-- with a question for this fact alone
abbrev pub alone : Searched → Fact → Searched
alone system fact = asking system (fact ∷ [])

-- the fact is one of those that are asked for, and the path is that of a shortest schedule that leads
-- to it
pub record IsFinding (system : Searched) (finding : Finding) : Type 0 where
  pub asked : IsOneOf finding.fact system.question.facts
  pub shortest : IsShortestSchedule (alone system finding.fact) finding.path.items

-- so is each of these
abbrev pub AreFindings : Searched → List Finding → Type 0
AreFindings system [] = Unit {0}
AreFindings system (finding ∷ others) = IsFinding system finding × AreFindings system others

-- the facts that were found
abbrev pub facts_of : List Finding → List Fact
facts_of [] = []
facts_of (finding ∷ others) = finding.fact ∷ facts_of others

-- the path to the one fact is no longer than that to the other
abbrev pub IsNoLater : Finding → Finding → Type 0
IsNoLater one other = length one.path.items ≤ length other.path.items

-- what the end of a search with room for this many states says of a fact that was not found
abbrev pub EndSaysOfOne : Searched → ℕ → End → Type 0
EndSaysOfOne system room (ends.Closed states) = NoSchedule system
EndSaysOfOne system room (ends.Full depth) =
    NoScheduleWithin system depth × IsRoomUsedUp system room depth

-- what it says of all of them together: how many states there are, too, if it has seen them all
abbrev pub EndSays : Searched → ℕ → End → Type 0
EndSays system room (ends.Closed states) = NoSchedule system × HasStates system states
EndSays system room (ends.Full depth) =
    NoScheduleWithin system depth × IsRoomUsedUp system room depth

-- each finding is right, the shortest paths come first, and no fact is found twice; the end says of the
-- other facts what a search for them would say, and of each of them what a search for it alone would,
-- with the same room for states; and each fact that is asked for is found or one of the others, and
-- none is both
pub record IsCensus (system : Searched) (room : ℕ) (census : Census) : Type 0 where
  pub found : AreFindings system census.found.items
  pub in_order : AllPairs IsNoLater census.found.items
  pub once : AllPairs (λ one other. one.fact ≢ other.fact) census.found.items
  pub left : EndSays (asking system census.others) room census.end
  pub others : (fact : Fact) → IsOneOf fact census.others
      → IsOneOf fact system.question.facts × EndSaysOfOne (alone system fact) room census.end
  pub whole : (fact : Fact) → IsOneOf fact system.question.facts
      → IsOneOf fact (facts_of census.found.items) ⊎ IsOneOf fact census.others
  pub apart : (fact : Fact) → IsOneOf fact (facts_of census.found.items)
      → IsOneOf fact census.others → ⊥

-- the search is one of this system, or was one that asked for more
pub record IsSearchOf (system : Searched) (search : Search Workplace) : Type 0 where
  pub over : IsOver (word_count system.table) (IsForm system.pace system.table)
      (IsWorkplace system.table) search
  pub searched : IsSearched (makes system) (search_start system) search

-- the path that is found, if one is, hits
abbrev pub FoundHits : Searched → Answer → Type 0
FoundHits system (Found path) = IsHit (makes system) (search_start system) path.items
FoundHits system _ = Unit {0}
