-- A search for some facts and one for fewer of them.
use Rattle.std.proofs.Common.{◌≡◌, ℕ, zero, suc, ◌<◌, ◌≤◌, ◌⊎◌, Bool, true, false, List, [], ◌∷◌, ◌++◌, length, nat_lt, Option, None, Some, if◌then◌else◌, inl, inr, refl, sym, ◌∙◌, ap, subst, arith}
use Rattle.std.proofs.lemmas.Bool.{cases_Bool}
use Rattle.std.proofs.lemmas.Bool.Decides.{Decides-eqb}
use Rattle.std.proofs.lemmas.Option.{same_Some}
use Rattle.std.proofs.lemmas.List.Elements.{All-head, All-push, All-tail}
use Rattle.std.proofs.lemmas.List.Quantifiers.{all_pairs_push}
use Rattle.std.specs.List.{All, AllPairs, list_any, slice_get}
use Rattle.std.specs.Prelude.{◌≢◌}
use Rattle.apex_explore.specs.Paths.{IsHit}
use Rattle.apex_explore.specs.Searches.{Weakens, room_of}
use Rattle.apex_explore.specs.Systems.{refuses, hits}
use Rattle.apex_explore.specs.declared.searches.Search.{Search}
use Rattle.apex_explore.proofs.Weaker.{Leads-weaker}
use Rattle.apex_machine.specs.Deeds.{Deed}
use Rattle.apex_machine.specs.Situations.{deed}
use Rattle.apex_pace.specs.Pace.{Paced}
use Rattle.apex_search.specs.Answers.{IsRoomUsedUp, IsShortestSchedule, LeadsToFact, schedule_of}
use Rattle.apex_search.specs.Census.{AreFindings, EndSays, EndSaysOfOne, IsCensus, IsFinding, IsNoLater, IsOneOf, IsSearchOf, alone, asking, facts_of, without}
use Rattle.apex_questions.specs.Facts.{is_code, is_fact}
use Rattle.apex_search.specs.Facts.{Shown, has_fact, has_one, shown_of}
use Rattle.apex_recall.specs.Restored.{paced_from}
use Rattle.apex_search.specs.Steps.{Searched, choices_of, makes, step_by}
use Rattle.apex_choices.specs.Choices.{event_of}
use Rattle.apex_search.specs.Terms.{Event, Fact, Question, ReturnCode}
use Rattle.apex_search.proofs.Narrower.{narrower_weakens, search_narrower, used_up_too, wider}
use Rattle.apex_search.specs.declared.census.Census.{Census}
use Rattle.apex_search.specs.declared.census.End.{End}
use Rattle.apex_search.specs.declared.census.End.TheVariants.{Closed, Full}
use Rattle.apex_search.specs.declared.census.Finding.{Finding}
use Rattle.apex_questions.specs.declared.Fact.TheVariants.{Missed, HardMissed, TimedOut, Lost, Ended, Refused, Response, Standstill}
use Rattle.apex_search.specs.declared.systems.Workplace.{Workplace}
use Rattle.apex_types.specs.declared.entries.ReturnCode.TheVariants as codes

-- Facts and codes are the same if they are told to be.

same_code : (one other : ReturnCode) → is_code one other ≡ true → one ≡ other
same_code codes.NoError codes.NoError e = refl
same_code codes.NoAction codes.NoAction e = refl
same_code codes.NotAvailable codes.NotAvailable e = refl
same_code codes.InvalidParam codes.InvalidParam e = refl
same_code codes.InvalidConfig codes.InvalidConfig e = refl
same_code codes.InvalidMode codes.InvalidMode e = refl
same_code codes.TimedOut codes.TimedOut e = refl
same_code one other e = cc

same_fact_is : (one other : Fact) → is_fact one other ≡ true → one ≡ other
same_fact_is Missed Missed e = refl
same_fact_is HardMissed HardMissed e = refl
same_fact_is TimedOut TimedOut e = refl
same_fact_is Lost Lost e = refl
same_fact_is Ended Ended e = refl
same_fact_is (Refused one) (Refused other) e = ap Refused (same_code one other e)
same_fact_is (Response one) (Response other) e = ap Response ((Decides-eqb one other).0 e)
same_fact_is Standstill Standstill e = refl
same_fact_is one other e = cc

is_code_itself : (code : ReturnCode) → is_code code code ≡ true
is_code_itself codes.NoError = refl
is_code_itself codes.NoAction = refl
is_code_itself codes.NotAvailable = refl
is_code_itself codes.InvalidParam = refl
is_code_itself codes.InvalidConfig = refl
is_code_itself codes.InvalidMode = refl
is_code_itself codes.TimedOut = refl

is_fact_itself : (fact : Fact) → is_fact fact fact ≡ true
is_fact_itself Missed = refl
is_fact_itself HardMissed = refl
is_fact_itself TimedOut = refl
is_fact_itself Lost = refl
is_fact_itself Ended = refl
is_fact_itself (Refused code) = is_code_itself code
is_fact_itself (Response ticks) = (Decides-eqb ticks ticks).1 refl
is_fact_itself Standstill = refl

-- Sets of facts.

pub at_place : (facts : List Fact) (place : ℕ) (fact : Fact) → slice_get facts place ≡ Some fact → IsOneOf fact facts
at_place [] place fact is = cc
at_place (x ∷ xs) zero fact is = inl (sym (same_Some x fact is))
at_place (x ∷ xs) (suc place) fact is = inr (at_place xs place fact is)

pub has_place : (facts : List Fact) (fact : Fact) → IsOneOf fact facts → (place : ℕ) × (slice_get facts place ≡ Some fact)
has_place [] fact one = absurd one
has_place (x ∷ xs) fact (inl same) = (0, ap Some (sym same))
has_place (x ∷ xs) fact (inr later) = let rest = has_place xs fact later in (suc rest.0, rest.1)

-- each fact but the one is still there
still_there : (gone : Fact) (facts : List Fact) (fact : Fact) → IsOneOf fact facts → (fact ≡ gone) ⊎ IsOneOf fact (without gone facts)
still_there gone [] fact one = absurd one
still_there gone (x ∷ xs) fact (inl same) = elim (cases_Bool (is_fact gone x)) [
  | inl holds ↦ inl (same ∙ sym (same_fact_is gone x holds))
  | inr fails ↦ inr (rw fails (inl same))
]
still_there gone (x ∷ xs) fact (inr later) = elim (still_there gone xs fact later) [
  | inl same ↦ inl same
  | inr there ↦ inr (elim (cases_Bool (is_fact gone x)) [
    | inl holds ↦ rw holds there
    | inr fails ↦ rw fails (inr there)
  ])
]

head_or : (x fact : Fact) (xs ys : List Fact) → (IsOneOf fact xs → IsOneOf fact ys) → IsOneOf fact (x ∷ xs) → IsOneOf fact (x ∷ ys)
head_or x fact xs ys on (inl same) = inl same
head_or x fact xs ys on (inr later) = inr (on later)

was_there : (gone : Fact) (facts : List Fact) (fact : Fact) → IsOneOf fact (without gone facts) → IsOneOf fact facts
was_there gone [] fact one = one
was_there gone (x ∷ xs) fact one = elim (cases_Bool (is_fact gone x)) [
  | inl holds ↦ inr (was_there gone xs fact (rw holds at one))
  | inr fails ↦ head_or x fact (without gone xs) xs (was_there gone xs fact) (rw fails at one)
]

no_more : (gone : Fact) (facts : List Fact) → length (without gone facts) ≤ length facts
no_more gone [] = omega arith
no_more gone (x ∷ xs) = elim (cases_Bool (is_fact gone x)) [
  | inl holds ↦ rw holds (let rest = no_more gone xs in omega (arith, rest))
  | inr fails ↦ rw fails (let rest = no_more gone xs in omega (arith, rest))
]

-- and the one is not
not_head : (gone x : Fact) (xs : List Fact) → is_fact gone x ≡ false → (IsOneOf gone xs → ⊥) → IsOneOf gone (x ∷ xs) → ⊥
not_head gone x xs fails none (inl same) =
    let holds : is_fact gone x ≡ true = subst (λ (f : Fact). is_fact gone f ≡ true) same (is_fact_itself gone) in
    let clash : true ≡ false = sym holds ∙ fails in cc
not_head gone x xs fails none (inr later) = none later

not_there : (gone : Fact) (facts : List Fact) → IsOneOf gone (without gone facts) → ⊥
not_there gone [] one = one
not_there gone (x ∷ xs) one = elim (cases_Bool (is_fact gone x)) [
  | inl holds ↦ not_there gone xs (rw holds at one)
  | inr fails ↦ not_head gone x (without gone xs) fails (not_there gone xs) (rw fails at one)
]

pub fewer : (gone : Fact) (facts : List Fact) → IsOneOf gone facts → length (without gone facts) < length facts
fewer gone [] one = absurd one
fewer gone (x ∷ xs) (inl same) =
    let here : is_fact gone x ≡ true = subst (λ (f : Fact). is_fact gone f ≡ true) same (is_fact_itself gone) in
    rw here (let rest = no_more gone xs in omega (arith, rest))
fewer gone (x ∷ xs) (inr later) = elim (cases_Bool (is_fact gone x)) [
  | inl holds ↦ rw holds (let rest = no_more gone xs in omega (arith, rest))
  | inr fails ↦ rw fails (let rest = fewer gone xs later in omega (arith, rest))
]

-- A test of the facts.

one_passes : (test : Fact → Bool) (facts : List Fact) → list_any test facts ≡ true → (fact : Fact) × IsOneOf fact facts × (test fact ≡ true)
one_passes test [] passes = cc
one_passes test (x ∷ xs) passes = elim (cases_Bool (test x)) [
  | inl holds ↦ (x, inl refl, holds)
  | inr fails ↦ let rest = one_passes test xs (rw fails at passes) in (rest.0, inr rest.1, rest.2)
]

passes_one : (test : Fact → Bool) (facts : List Fact) (fact : Fact) → IsOneOf fact facts → test fact ≡ true → list_any test facts ≡ true
passes_one test [] fact one holds = absurd one
passes_one test (x ∷ xs) fact (inl same) holds =
    let here : test x ≡ true = subst (λ (f : Fact). test f ≡ true) same holds in
    rw here refl
passes_one test (x ∷ xs) fact (inr later) holds = elim (cases_Bool (test x)) [
  | inl here ↦ rw here refl
  | inr fails ↦ rw fails (passes_one test xs fact later holds)
]

same_any : (test also : Fact → Bool) → ((fact : Fact) → test fact ≡ also fact) → (facts : List Fact) → list_any test facts ≡ list_any also facts
same_any test also same [] = refl
same_any test also same (x ∷ xs) = rw (same x, same_any test also same xs) refl

-- what a question asks of an entry for a fact doesn't depend on its other facts
abbrev with_facts : Question → List Fact → Question
with_facts question facts = record question { facts = facts }

same_one : (question : Question) (facts : List Fact) (entry : Shown) (fact : Fact) → has_one (with_facts question facts) entry fact ≡ has_one question entry fact
same_one question facts entry Missed = refl
same_one question facts entry HardMissed = refl
same_one question facts entry TimedOut = refl
same_one question facts entry Lost = refl
same_one question facts entry Ended = refl
same_one question facts entry (Refused code) = refl
same_one question facts entry (Response ticks) = refl
same_one question facts entry Standstill = refl

one_in : (question : Question) (facts : List Fact) (d : Deed) → has_fact (with_facts question facts) d ≡ list_any (has_one question (shown_of d)) facts
one_in question facts d =
    same_any (has_one (with_facts question facts) (shown_of d)) (has_one question (shown_of d)) (same_one question facts (shown_of d)) facts

module _ (system : Searched) where
  abbrev question : Question
  question = system.question

  -- the fact is asked for: so an entry that has it has one of the facts that are asked for
  asked_too : (facts : List Fact) → ((fact : Fact) → IsOneOf fact facts → IsOneOf fact question.facts)
      → (d : Deed) → has_fact (with_facts question facts) d ≡ true → has_fact question d ≡ true
  asked_too facts within d has =
      let found = one_passes (has_one question (shown_of d)) facts (sym (one_in question facts d) ∙ has) in
      passes_one (has_one question (shown_of d)) question.facts found.0 (within found.0 found.1) found.2

  module _ (facts : List Fact) (within : (fact : Fact) → IsOneOf fact facts → IsOneOf fact question.facts) where
    -- a search for fewer facts has a weaker step
    pub fewer_facts : Weakens (makes system) (makes (asking system facts))
    fewer_facts = narrower_weakens system (with_facts question facts) (asked_too facts within)

    wider_facts : (events : List Event) → LeadsToFact (asking system facts) events → LeadsToFact system events
    wider_facts = wider system (with_facts question facts) (asked_too facts within)

    used_up_for_fewer : (room depth : ℕ) → IsRoomUsedUp system room depth → IsRoomUsedUp (asking system facts) room depth
    used_up_for_fewer = used_up_too system (with_facts question facts) (asked_too facts within)

  only : (fact : Fact) → IsOneOf fact question.facts → (other : Fact) → IsOneOf other (fact ∷ []) → IsOneOf other question.facts
  only fact asked other (inl same) = subst (λ (f : Fact). IsOneOf f question.facts) (sym same) asked
  only fact asked other (inr none) = absurd none

  -- what an end says of all facts it says of each
  pub end_says : (room : ℕ) (end : End) → EndSays system room end → (fact : Fact) → IsOneOf fact question.facts → EndSaysOfOne (alone system fact) room end
  end_says room (Closed states) says fact asked = λ events leads. says.0 events (wider_facts (fact ∷ []) (only fact asked) events leads)
  end_says room (Full depth) says fact asked = (
    λ events short leads. says.0 events short (wider_facts (fact ∷ []) (only fact asked) events leads),
    used_up_for_fewer (fact ∷ []) (only fact asked) room depth says.1,
  )

  -- a shortest path to one of the facts that leads to this one is a shortest one to it
  pub shortest_alone : (fact : Fact) → IsOneOf fact question.facts → (path : List ℕ)
      → IsShortestSchedule system path
      → LeadsToFact (alone system fact) (schedule_of (alone system fact) path)
      → length (schedule_of (alone system fact) path) ≡ length path
      → IsShortestSchedule (alone system fact) path
  shortest_alone fact asked path shortest leads many = record {
    leads = leads;
    many = many;
    shortest = λ other there. shortest.shortest other (wider_facts (fact ∷ []) (only fact asked) other there);
  }

  -- a path that hits does so for one of the facts
  hits_one : (s : Paced) (found : Option Event) → step_by system s found ≡ hits
      → (fact : Fact) × IsOneOf fact question.facts × (step_by (alone system fact) s found ≡ hits)
  hits_one s None is = cc
  hits_one s (Some event) is =
      let d = deed system.table s.situation event in
      elim (cases_Bool (has_fact question d)) [
        | inl holds ↦
            let found = one_passes (has_one question (shown_of d)) question.facts holds in
            let has : has_fact (with_facts question (found.0 ∷ [])) d ≡ true =
            one_in question (found.0 ∷ []) d ∙ passes_one (has_one question (shown_of d)) (found.0 ∷ []) found.0 (inl refl) found.2 in
            (found.0, found.1, rw has refl)
        | inr fails ↦ let none = rw fails at is in cc
      ]

  own_one : (own : Bool) (s : Paced) (found : Option Event) → (if own then step_by system s found else refuses) ≡ hits
      → (fact : Fact) × IsOneOf fact question.facts × ((if own then step_by (alone system fact) s found else refuses) ≡ hits)
  own_one true s found is = hits_one s found is
  own_one false s found is = cc

  pub one_hits : (k : List ℕ) (path : List ℕ) → IsHit (makes system) k path
      → (fact : Fact) × IsOneOf fact question.facts × IsHit (makes (alone system fact)) k path
  one_hits k path (front, last, n, split, leads, hit) =
      let s = paced_from system.table n in
      let one = own_one (nat_lt last (choices_of system)) s (event_of system.pace system.table s last) hit in
      let goes_on = Leads-weaker (makes system) (makes (alone system one.0)) (fewer_facts (one.0 ∷ []) (only one.0 one.1)) k front n leads in
      (one.0, one.1, (front, last, n, split, goes_on, one.2))

  -- a search for all of them is one for some
  search_fewer : (facts : List Fact) → ((fact : Fact) → IsOneOf fact facts → IsOneOf fact question.facts)
      → (search : Search Workplace) → IsSearchOf system search → IsSearchOf (asking system facts) search
  search_fewer facts within = search_narrower system (with_facts question facts) (asked_too facts within)

-- The findings so far.

found_push : (system : Searched) (found : List Finding) (finding : Finding) → AreFindings system found → IsFinding system finding → AreFindings system (found ++ finding ∷ [])
found_push system [] finding are is = (is, tt)
found_push system (x ∷ xs) finding are is = (are.0, found_push system xs finding are.1 is)

found_before : (found : List Finding) (finding : Finding) (fact : Fact) → IsOneOf fact (facts_of found) → IsOneOf fact (facts_of (found ++ finding ∷ []))
found_before [] finding fact one = absurd one
found_before (x ∷ xs) finding fact (inl same) = inl same
found_before (x ∷ xs) finding fact (inr later) = inr (found_before xs finding fact later)

found_last : (found : List Finding) (finding : Finding) (fact : Fact) → fact ≡ finding.fact → IsOneOf fact (facts_of (found ++ finding ∷ []))
found_last [] finding fact same = inl same
found_last (x ∷ xs) finding fact same = inr (found_last xs finding fact same)

of_each_fact : (P : Fact → Type 0) (found : List Finding) → All (λ (finding : Finding). P finding.fact) found
    → (fact : Fact) → IsOneOf fact (facts_of found) → P fact
of_each_fact P [] all fact one = absurd one
of_each_fact P (x ∷ xs) all fact (inl same) = subst P (sym same) (All-head (λ (finding : Finding). P finding.fact) x xs all)
of_each_fact P (x ∷ xs) all fact (inr later) = of_each_fact P xs (All-tail (λ (finding : Finding). P finding.fact) x xs all) fact later

-- it is not one of these facts
abbrev pub IsGone : List Fact → Finding → Type 0
IsGone facts finding = IsOneOf finding.fact facts → ⊥

-- no schedule that leads to a fact of the system is shorter
abbrev pub ComesFirst : Searched → Finding → Type 0
ComesFirst now finding = (events : List Event) → LeadsToFact now events → length finding.path.items ≤ length events

-- the system asks for those of the facts that were not found yet, and the search has room for this many
-- states
pub record IsCounting (system now : Searched) (room : ℕ) (search : Search Workplace) (found : List Finding) : Type 0 where
  pub same : now ≡ asking system now.question.facts
  pub of : IsSearchOf now search
  pub room_is : room_of search ≡ room
  pub each : AreFindings system found
  pub in_order : AllPairs IsNoLater found
  pub once : AllPairs (λ one other. one.fact ≢ other.fact) found
  pub gone : All (IsGone now.question.facts) found
  pub sooner : All (ComesFirst now) found
  pub within : (fact : Fact) → IsOneOf fact now.question.facts → IsOneOf fact system.question.facts
  pub whole : (fact : Fact) → IsOneOf fact system.question.facts → IsOneOf fact (facts_of found) ⊎ IsOneOf fact now.question.facts

pub counting_begins : (system : Searched) (search : Search Workplace) → IsSearchOf system search → IsCounting system system (room_of search) search []
counting_begins system search of = record {
  same = refl;
  of = of;
  room_is = refl;
  each = tt;
  in_order = λ i j d before within. absurd (omega (arith, within));
  once = λ i j d before within. absurd (omega (arith, within));
  gone = λ k d within. absurd (omega (arith, within));
  sooner = λ k d within. absurd (omega (arith, within));
  within = λ fact one. one;
  whole = λ fact one. inr one;
}

pub counting_more : (system now next : Searched) (room : ℕ) (search search' : Search Workplace) (found found' : List Finding) (finding : Finding)
    → IsCounting system now room search found
    → IsSearchOf now search'
    → room_of search' ≡ room_of search
    → IsOneOf finding.fact now.question.facts
    → IsShortestSchedule now finding.path.items
    → IsShortestSchedule (alone now finding.fact) finding.path.items
    → next ≡ asking now (without finding.fact now.question.facts)
    → found' ≡ found ++ finding ∷ []
    → IsCounting system next room search' found'
counting_more system now next room search search' found found' finding so_far of same_room asked first shortest is pushed =
    rw (is, pushed) (more) where
      others : List Fact
      others = without finding.fact now.question.facts

      there : (fact : Fact) → IsOneOf fact others → IsOneOf fact now.question.facts
      there fact one = was_there finding.fact now.question.facts fact one

      wider_there : (events : List Event) → LeadsToFact (asking now others) events → LeadsToFact now events
      wider_there = wider_facts now others there

      found_or_open : (fact : Fact) → IsOneOf fact (facts_of found) ⊎ IsOneOf fact now.question.facts
          → IsOneOf fact (facts_of (found ++ finding ∷ [])) ⊎ IsOneOf fact others
      found_or_open fact (inl before) = inl (found_before found finding fact before)
      found_or_open fact (inr left) = elim (still_there finding.fact now.question.facts fact left) [
        | inl same ↦ inl (found_last found finding fact same)
        | inr still ↦ inr still
      ]

      more : IsCounting system (asking now (without finding.fact now.question.facts)) room search' (found ++ finding ∷ [])
      more = record {
        same = ap (λ (s : Searched). asking s others) so_far.same;
        of = search_fewer now others there search' of;
        room_is = same_room ∙ so_far.room_is;
        each = found_push system found finding so_far.each (record {
          asked = so_far.within finding.fact asked;
          shortest = subst (λ (s : Searched). IsShortestSchedule (alone s finding.fact) finding.path.items) so_far.same shortest;
        });
        in_order = all_pairs_push IsNoLater found finding so_far.in_order (λ k d within.
            let bound = so_far.sooner k d within (schedule_of now finding.path.items) first.leads in
            omega (arith, bound, first.many));
        once = all_pairs_push (λ (one other : Finding). one.fact ≢ other.fact) found finding so_far.once (λ k d within same.
            so_far.gone k d within (subst (λ (f : Fact). IsOneOf f now.question.facts) (sym same) asked));
        gone = All-push (IsGone others) found finding (λ k d within one. so_far.gone k d within (there _ one))
            (not_there finding.fact now.question.facts);
        sooner = All-push (ComesFirst (asking now others)) found finding
            (λ k d within events leads. so_far.sooner k d within events (wider_there events leads))
            (λ events leads. first.shortest events (wider_there events leads));
        within = λ fact one. so_far.within fact (there fact one);
        whole = λ fact one. found_or_open fact (so_far.whole fact one);
      }

pub counting_ends : (system now : Searched) (room : ℕ) (search : Search Workplace) (found : List Finding) (census : Census)
    → IsCounting system now room search found
    → census.found.items ≡ found
    → census.others ≡ now.question.facts
    → EndSays now (room_of search) census.end
    → IsCensus system room census
counting_ends system now room search found census so_far same is says = record {
  found = subst (λ (findings : List Finding). AreFindings system findings) (sym same) so_far.each;
  in_order = subst (λ (findings : List Finding). AllPairs IsNoLater findings) (sym same) so_far.in_order;
  once = subst (λ (findings : List Finding). AllPairs (λ one other. one.fact ≢ other.fact) findings) (sym same) so_far.once;
  left = subst (λ (s : Searched). EndSays s room census.end) (so_far.same ∙ ap (asking system) (sym is)) here;
  others = λ fact one.
      let asked : IsOneOf fact now.question.facts = subst (λ (facts : List Fact). IsOneOf fact facts) is one in (
        so_far.within fact asked,
        subst (λ (s : Searched). EndSaysOfOne (alone s fact) room census.end) so_far.same (end_says now room census.end here fact asked),
      );
  whole = λ fact one.
      subst (λ (findings : List Finding). IsOneOf fact (facts_of findings) ⊎ IsOneOf fact census.others) (sym same) (subst (λ (facts : List Fact). IsOneOf fact (facts_of found) ⊎ IsOneOf fact facts) (sym is) (so_far.whole fact one));
  apart = λ fact one.
      subst (λ (facts : List Fact). IsOneOf fact facts → ⊥) (sym is)
      (of_each_fact (λ (f : Fact). IsOneOf f now.question.facts → ⊥) found so_far.gone fact
      (subst (λ (findings : List Finding). IsOneOf fact (facts_of findings)) same one));
} where
  here : EndSays now room census.end
  here = subst (λ (n : ℕ). EndSays now n census.end) so_far.room_is says
