-- The first of the highest ready list is the chosen process of the core.
use Rattle.std.proofs.Common.{◌≡◌, ◌≢◌, ℕ, ◌<◌, true, length, Option, None, Some, IfSome, inl, inr, refl, sym, subst, ◌∙◌, arith}
use Rattle.std.specs.Option.{MatchOption}
use Rattle.std.proofs.lemmas.Bool.{cases_lt, cases_Bool, and_parts, and_from, eqb-true, eq-eqb, lt-ltb, false≢true}
use Rattle.std.proofs.lemmas.Bool.Decides.{nat_tests}
use Rattle.std.proofs.lemmas.Int.{ints}
use Rattle.std.proofs.lemmas.Option.{get_or_from_slice_get, slice_get-get_or}
use Rattle.apex_types.specs.declared.limits.TheConstants.{MOST_CORES}
use Rattle.apex_machine.specs.declared.records.Record.{Record}
use Rattle.apex_machine.specs.processes.Roster.{Roster, nobody, record_at}
use Rattle.apex_machine.specs.processes.Running.{chosen, current_priority, is_before, is_eligible, is_older, runs_on, IsEligible}
use Rattle.apex_machine.proofs.Choice.{place_is, place_found}
use Rattle.apex_machine.proofs.Orders.{before_strict}
use Rattle.apex_links.specs.Neighbours.{stands_in}
use Rattle.apex_links.specs.Links.{Links, list_at}
use Rattle.apex_ready.specs.ReadyOrders.{ready_list, IsIdle, IsTop}
use Rattle.apex_links.proofs.Places.{first_none, first_stands}
use Rattle.apex_links.proofs.Sorted.{first_before}
use Rattle.apex_process.specs.Lists.{HavePlaces}
use Rattle.apex_process.specs.State.{is_ready_at, AreReadyLists}
use Rattle.apex_process.proofs.Places.{eligible_known}
use Rattle.apex_store.proofs.Urgency.{runs_parts, runs_from}

module _ (roster : Roster) (links : Links) (core : ℕ) (are : AreReadyLists roster links) (places : HavePlaces roster) (inside : core < MOST_CORES) where
  -- a process that may run on the core is in the list of its priority
  in_its_list : (q : ℕ) → IsEligible roster q → (record_at roster q).core ≡ core
      → stands_in q (list_at links (ready_list core (current_priority (record_at roster q)))) ≡ true
  in_its_list q eligible on = are.members core _ q inside ((places q).priority eligible) ∙ and_from _ _ eligible (and_from _ _ (eq-eqb _ _ on) (eq-eqb _ _ refl))

  ready_parts : (priority n : ℕ) → is_ready_at roster core priority n ≡ true → IsEligible roster n × ((record_at roster n).core ≡ core) × (current_priority (record_at roster n) ≡ priority)
  ready_parts priority n e =
      let both = and_parts _ _ e in
      let rest = and_parts _ _ both.1 in
      (both.0, eqb-true _ _ rest.0, eqb-true _ _ rest.1)

  before_if : (r s : Record) → (current_priority s < current_priority r) → is_before r s ≡ true
  before_if r s less = rw (lt-ltb _ _ less) refl

  before_older : (r s : Record) → current_priority r ≡ current_priority s → is_older r s ≡ true → is_before r s ≡ true
  before_older r s level older = grind (arith, ints, nat_tests, level, older)

  ahead : (n q : ℕ) (top : IsTop links core n) → current_priority (record_at roster n) ≡ top.priority → IsEligible roster q → (record_at roster q).core ≡ core → q ≢ n
      → is_before (record_at roster n) (record_at roster q) ≡ true
  ahead n q top level eligible on apart =
      let stands = in_its_list q eligible on in
      elim (cases_lt top.priority (current_priority (record_at roster q))) [
        | inl higher ↦ absurd (false≢true (sym (first_none q _ (top.highest _ higher ((places q).priority eligible))) ∙ stands))
        | inr upto ↦ elim (cases_lt (current_priority (record_at roster q)) top.priority) [
          | inl lower ↦ before_if (record_at roster n) (record_at roster q) (rw level lower)
          | inr least ↦
              let equal : current_priority (record_at roster q) ≡ top.priority = omega (arith, upto, least) in
              before_older (record_at roster n) (record_at roster q) (level ∙ sym equal)
              (first_before (λ p r. is_older (record_at roster p) (record_at roster r)) n q (list_at links (ready_list core top.priority)) (are.sorted core top.priority inside top.known) top.front (rw equal at stands) apart)
        ]
      ]

  top_chosen : (n : ℕ) → IsTop links core n → chosen roster core ≡ Some n
  top_chosen n top =
      let ready = ready_parts top.priority n (sym (are.members core top.priority n inside top.known) ∙ first_stands n _ top.front) in
      let known = eligible_known roster n ready.0 in
      place_is (runs_on roster.mode core) is_before roster.records before_strict n (record_at roster n) (record {
        here = slice_get-get_or roster.records n nobody known;
        passing = runs_from roster.mode core (record_at roster n) ready.0 ready.1;
        first = λ q s there passed apart.
            let same = get_or_from_slice_get roster.records q s nobody there in
            let runs = runs_parts roster.mode core s passed in
            subst (λ (t : Record). is_before (record_at roster n) t ≡ true) same (ahead n q top ready.2
            (subst (λ (t : Record). is_eligible roster.mode t ≡ true) (sym same) runs.0)
            (subst (λ (t : Record). t.core ≡ core) (sym same) runs.1) apart);
      })

  idle_chosen : IsIdle links core → chosen roster core ≡ None
  idle_chosen idle = place_found (runs_on roster.mode core) is_before roster.records None (record {
    none = λ q within. elim (cases_Bool (runs_on roster.mode core (record_at roster q))) [
      | inl e ↦
          let runs = runs_parts roster.mode core (record_at roster q) e in
          absurd (false≢true (sym (first_none q _ (idle _ ((places q).priority runs.0))) ∙ in_its_list q runs.0 runs.1))
      | inr e ↦ e
    ];
  })

  -- the lists give the chosen process, or none
  pub found_chosen : (found : Option ℕ) → MatchOption found (IsIdle links core) (λ n. IsTop links core n) → found ≡ chosen roster core
  found_chosen None idle = sym (idle_chosen idle)
  found_chosen (Some n) top = sym (top_chosen n top)

  pub found_known : (found : Option ℕ) → MatchOption found (IsIdle links core) (λ n. IsTop links core n) → IfSome found (λ n. n < length roster.records)
  found_known None idle = tt
  found_known (Some n) top =
      eligible_known roster n (ready_parts top.priority n (sym (are.members core top.priority n inside top.known) ∙ first_stands n _ top.front)).0
