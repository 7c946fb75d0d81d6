-- The chosen process in words: eligible, bound to the core, and more urgent than every other.
use Rattle.std.proofs.Common.{◌≡◌, ℕ, inl, inr, true, Some, slice_get, arith}
use Rattle.std.proofs.lemmas.Bool.{eqb-true, eq-eqb, ltb-true, and_parts, and_from, or_cases, both_ways}
use Rattle.std.proofs.lemmas.Int.{ints}
use Rattle.std.proofs.lemmas.Option.{get_or_from_slice_get, slice_get-get_or, slice_get_within}
use Rattle.apex_store.specs.Terms.{Mode, Record}
use Rattle.apex_machine.specs.processes.Roster.{Roster, nobody, record_at}
use Rattle.apex_machine.specs.processes.Running.{chosen, is_before, is_eligible, runs_on}
use Rattle.apex_store.specs.Laws.{IsMoreUrgent, IsTheLeast, MayRun, RunsMostUrgent}

pub runs_parts : (mode : Mode) (core : ℕ) (r : Record) → runs_on mode core r ≡ true → (is_eligible mode r ≡ true) × (r.core ≡ core)
unfolding runs_on
runs_parts mode core r e = let both = and_parts _ _ e in (both.0, eqb-true r.core core both.1)

pub runs_from : (mode : Mode) (core : ℕ) (r : Record) → is_eligible mode r ≡ true → r.core ≡ core → runs_on mode core r ≡ true
unfolding runs_on
runs_from mode core r e f = and_from _ _ e (eq-eqb r.core core f)

more_urgent : (r s : Record) → is_before r s ≡ true → IsMoreUrgent r s
more_urgent r s e =
    elim (or_cases _ _ e) [
      | inl greater ↦ inl (ltb-true _ _ greater)
      | inr equal ↦ let both = and_parts _ _ equal in let longer = both.1 in
          inr (eqb-true _ _ both.0, omega (arith, ints))
    ]

may_run : (roster : Roster) (core p : ℕ) (r : Record) → slice_get roster.records p ≡ Some r → runs_on roster.mode core r ≡ true → MayRun roster core p
may_run roster core p r here runs =
    let parts = runs_parts roster.mode core r runs in
    let e = get_or_from_slice_get roster.records p r nobody here in
    record { known = slice_get_within roster.records p r here; eligible = rw e parts.0; bound = rw e parts.1 }

runs_at : (roster : Roster) (core p : ℕ) → MayRun roster core p → runs_on roster.mode core (record_at roster p) ≡ true
runs_at roster core p may = runs_from roster.mode core (record_at roster p) may.eligible may.bound

record_here : (roster : Roster) (core p : ℕ) → MayRun roster core p → slice_get roster.records p ≡ Some (record_at roster p)
record_here roster core p may = slice_get-get_or roster.records p nobody may.known

pub most_urgent : (roster : Roster) (core : ℕ) → IsTheLeast (runs_on roster.mode core) is_before roster.records (chosen roster core) → RunsMostUrgent roster core
most_urgent roster core is = record {
  running = λ p e. let found = is.least p e in may_run roster core p found.0 found.1.here found.1.passing;
  first = λ p q e may apart.
      let found = is.least p e in
      let before = found.1.first q (record_at roster q) (record_here roster core q may) (runs_at roster core q may) apart in
      rw (get_or_from_slice_get roster.records p found.0 nobody found.1.here) (more_urgent found.0 (record_at roster q) before);
  idle = λ e p may.
      both_ways _ (is.none e p (record_at roster p) (record_here roster core p may)) (runs_at roster core p may);
}
