-- What the text of a history gives, by its verdict.
use Rattle.std.proofs.Common.{◌≡◌, ◌∙◌, ◌⊎◌, inl, inr, ℕ, ◌-◌, false, List, Option, None, Some, ap, refl, subst, sym, take}
use Rattle.apex_check.proofs.Told.{legal_machine}
use Rattle.apex_incoming.specs.Ahead.{IsAhead}
use Rattle.apex_check.specs.Faults.{IsFaultOf}
use Rattle.apex_check.specs.Verdicts.{HasFollowed, IsAtFault, verdict_text}
use Rattle.apex_check.specs.declared.CheckFault.{CheckFault}
use Rattle.apex_check.specs.declared.CheckFault.TheVariants as checking
use Rattle.apex_check.specs.declared.Verdict.{Verdict}
use Rattle.apex_check.specs.declared.Verdict.TheVariants.{Legal, DepartsAt}
use Rattle.apex_console.specs.Faults.{fault_of_checking}
use Rattle.apex_console.specs.Reports.{Answer, refuses, runs_to}
use Rattle.apex_console.specs.declared.CliFault.TheVariants.{Memory}
use Rattle.apex_departures.specs.Explained.{fault_in_memory}
use Rattle.apex_departures.specs.Lines.{given_parts, part_given}
use Rattle.apex_departures.specs.Pages.{expected_text}
use Rattle.apex_departures.specs.Shown.{shown}
use Rattle.apex_machine.specs.Machine.{Machine, events_of, opening, run}
use Rattle.apex_machine.specs.table.Table as tables
use Rattle.apex_types.specs.declared.entries.Entry.{Entry}
use Rattle.apex_views.specs.Departures.{Departure, departure_at, departure_said}
use Rattle.apex_views.specs.Shows.{IsRunTo, IsToldBy, Outcome, at_fault, departed, fails, legal, outcome_of_run, parts, shows, stops}
use Rattle.apex_views.specs.declared.departures.Departure.{Departure as DepartureIn}
use Rattle.apex_views.specs.declared.sources.GivenRun.{GivenRun}
use Rattle.apex_views.specs.declared.sources.GivenRun.TheVariants as run_in
use Rattle.apex_views.specs.declared.faults.ShowFault.TheVariants.{Common}
use Rattle.apex_views.proofs.Before.{departs_behind}

module _ (text : List ℕ) (table : tables.Table) (verdict : Verdict) (machine : Machine) (found : HasFollowed text table verdict machine) where
  -- a legal history
  pub told_legal : (n : ℕ) (outcome : Outcome) → verdict ≡ Legal n → outcome ≡ shows table machine None → IsToldBy text outcome
  told_legal n outcome is same =
      let (lawful, table_is, ran_is) = legal_machine text table n machine (subst (λ (v : Verdict). HasFollowed text table v machine) is found) in
      rw same (subst (λ (t : tables.Table). IsToldBy text (shows t machine None)) table_is
      (subst (λ (m : Machine). IsToldBy text (shows lawful.table m None)) ran_is (legal lawful)))

  -- a history that departs
  pub told_departed : (n : ℕ) (expected : Option Entry) (departure : Departure) (outcome : Outcome) → verdict ≡ DepartsAt n expected
      → departure ≡ departure_at text table n expected
      → outcome ≡ parts table (run table (opening table) (take (n - 1) (events_of machine.history))) departure → IsToldBy text outcome
  told_departed n expected departure outcome is seen same =
      rw (same, seen) (departed table (run table (opening table) (take (n - 1) (events_of machine.history)))
      (departs_behind text table n expected machine (subst (λ (v : Verdict). HasFollowed text table v machine) is found)))

-- what is shown of a departure
pub departure_is : (departure : DepartureIn) (text : List ℕ) (table : tables.Table) (verdict : Verdict) (n : ℕ) (expected : Option Entry)
    → verdict ≡ DepartsAt n expected → departure.verdict.items ≡ verdict_text table verdict
    → departure.lines.expected.items ≡ expected_text table expected
    → departure.lines.given.items ≡ shown (part_given false (given_parts text) (n - 1))
    → departure_said departure ≡ departure_at text table n expected
departure_is departure text table verdict n expected is told_so expects given =
    rw (told_so ∙ ap (verdict_text table) is, expects, given) refl

-- the outcome of the run before a departure
abbrev before_of : DepartureIn → Answer → Outcome
before_of departure (refuses fault) = stops (fails (Common fault))
before_of departure (runs_to table machine fault) = parts table machine (departure_said departure)

pub run_before : (departure : DepartureIn) (made : GivenRun) (table : tables.Table) (machine : Machine) → IsRunTo (runs_to table machine None) made
    → outcome_of_run (Some departure) made ≡ parts table machine (departure_said departure)
run_before departure (run_in.Picture plan) table machine is = sym (ap (before_of departure) is)
run_before departure (run_in.Listing listing run) table machine is = sym (ap (before_of departure) is)
run_before departure (run_in.Empty window fold run) table machine is = sym (ap (before_of departure) is)
run_before departure (run_in.Lacking name run) table machine is = sym (ap (before_of departure) is)

-- a text with a fault, or no memory
module _ (text : List ℕ) where
  told_at : (fault : CheckFault) → (t : List ℕ) × IsAhead t (Some text) × IsAtFault t fault
      → IsToldBy text (stops (fails (Common (fault_of_checking fault))))
  told_at fault (t, same, is) = at_fault (subst (λ (x : List ℕ). IsAtFault x fault) same is)

  pub told_fault : (fault : CheckFault) → IsFaultOf (Some text) fault
      → (fault_of_checking (fault_in_memory fault) ≡ Memory)
      ⊎ IsToldBy text (stops (fails (Common (fault_of_checking (fault_in_memory fault)))))
  told_fault checking.Memory is = inl refl
  told_fault checking.Read is = inl refl
  told_fault (checking.Table fault) is = inr (told_at (checking.Table fault) is)
  told_fault checking.NoSeparator is = inr (told_at checking.NoSeparator is)
  told_fault (checking.BadLine n) is = inr (told_at (checking.BadLine n) is)
  told_fault (checking.TooLong n) is = inr (told_at (checking.TooLong n) is)
  told_fault checking.Write is = inr (told_at checking.Write is)

-- a machine before a departure, by its other form
pub parts_same : (table other : tables.Table) (machine before : Machine) (departure : Departure) → other ≡ table → before ≡ machine
    → parts other before departure ≡ parts table machine departure
parts_same table other machine before departure one two = rw (one, two) refl
