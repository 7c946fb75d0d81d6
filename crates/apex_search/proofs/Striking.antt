-- The fact to which a path that was found leads.
use Rattle.std.proofs.Common.{◌≡◌, ℕ, ◌+◌, ◌<◌, ◌≤◌, Bool, true, false, List, [], ◌∷◌, length, Some, inl, inr, sym, ◌∙◌, ap, subst, arith}
use Rattle.std.specs.Prelude.{◌↔◌, IsTrue}
use Rattle.std.proofs.lemmas.Bool.{cases_lt}
use Rattle.std.proofs.lemmas.Option.{same_Some, slice_get_within}
use Rattle.std.specs.List.{slice_get}
use Rattle.apex_explore.specs.Paths.{IsHit}
use Rattle.apex_laws.specs.Laws.{OfEachTable}
use Rattle.apex_machine.specs.table.Table.{IsLawful}
use Rattle.apex_pace.specs.Laws.{IsPace}
use Rattle.apex_search.specs.Answers.{IsShortestSchedule}
use Rattle.apex_search.specs.Census.{IsOneOf, alone, asking}
use Rattle.apex_recall.specs.Laws.{FormsHaveWords, FormsReach, WordsAreExact}
use Rattle.apex_search.specs.Laws.{FormsStandFor}
use Rattle.apex_recall.specs.Reached.{IsReached}
use Rattle.apex_search.specs.Steps.{Searched, makes, search_start}
use Rattle.apex_search.specs.Terms.{Fact}
use Rattle.apex_search.proofs.Along.{stand}
use Rattle.apex_search.proofs.Censuses.{has_place, one_hits, shortest_alone}
use Rattle.apex_search.proofs.Schedules.{hit_is}

-- the path leads to none of the facts that were tried; the system is the same but for its facts
pub record IsStriking (system now : Searched) (path : List ℕ) (tried : ℕ) : Type 0 where
  pub same : asking now [] ≡ asking system []
  pub none : (place : ℕ) (fact : Fact) → place < tried → slice_get system.question.facts place ≡ Some fact
      → IsHit (makes (alone system fact)) (search_start system) path → ⊥

-- a fact is tried
module _ (system now next : Searched) (path : List ℕ) (tried : ℕ) (fact : Fact) (one : List Fact) (answer : Bool)
    (so_far : IsStriking system now path tried) (one_is : one ≡ fact ∷ []) (next_is : next ≡ asking now one)
    (tells : IsTrue answer ↔ IsHit (makes next) (search_start next) path) where
  is_alone : next ≡ alone system fact
  is_alone = next_is ∙ ap (asking now) one_is ∙ ap (λ (s : Searched). alone s fact) so_far.same

  tells_alone : IsTrue answer ↔ IsHit (makes (alone system fact)) (search_start system) path
  tells_alone = subst (λ (s : Searched). IsTrue answer ↔ IsHit (makes s) (search_start s) path) is_alone tells

  pub strike_hits : answer ≡ true → IsHit (makes (alone system fact)) (search_start system) path
  strike_hits holds = tells_alone.0 holds

  pub strike_others : (left : List Fact) (after : Searched) → after ≡ asking next left → after ≡ asking system left
  strike_others left after is = is ∙ ap (λ (s : Searched). asking s left) is_alone

  pub strike_more : slice_get system.question.facts tried ≡ Some fact → answer ≡ false → IsStriking system next path (tried + 1)
  strike_more here fails = record {
    same = ap (λ (s : Searched). asking s []) is_alone;
    none = λ place other below is hit.
        elim (cases_lt place tried) [
          | inl before ↦ so_far.none place other before is hit
          | inr last ↦
              let e : place ≡ tried = omega arith in
              let both : Some fact ≡ Some other = sym here ∙ ap (slice_get system.question.facts) (sym e) ∙ is in
              let hit_here : IsHit (makes (alone system fact)) (search_start system) path =
              subst (λ (f : Fact). IsHit (makes (alone system f)) (search_start system) path) (sym (same_Some fact other both)) hit in
              let holds : answer ≡ true = tells_alone.1 hit_here in
              let clash : true ≡ false = sym holds ∙ fails in cc
        ];
  }

-- one of them is there
pub strike_ends : (system now : Searched) (path : List ℕ) (tried : ℕ) → IsStriking system now path tried
    → length system.question.facts ≤ tried → IsHit (makes system) (search_start system) path → ⊥
strike_ends system now path tried so_far all hit =
    let one = one_hits system (search_start system) path hit in
    let place = has_place system.question.facts one.0 one.1 in
    let below = slice_get_within system.question.facts place.0 one.0 place.1 in
    so_far.none place.0 one.0 (omega (arith, below)) place.1 one.2

-- the path is that of a shortest schedule that leads to the fact
pub strike_shortest : (system : Searched) → IsPace system.pace → IsLawful system.table → FormsReach system.table
    → OfEachTable FormsStandFor → OfEachTable WordsAreExact → OfEachTable FormsHaveWords
    → (fact : Fact) → IsOneOf fact system.question.facts → (path : List ℕ) → IsShortestSchedule system path
    → IsHit (makes (alone system fact)) (search_start system) path
    → IsShortestSchedule (alone system fact) path
strike_shortest system is_pace lawful bounds alike exact words fact asked path shortest hit =
    let found = hit_is (alone system fact) (IsReached system.table) (stand system is_pace lawful bounds alike exact words) path hit in
    shortest_alone system fact asked path shortest found.leads found.many
