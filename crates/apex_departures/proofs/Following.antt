-- What a history that was followed gives: the entry that its verdict shows, and its fault.
use Rattle.std.proofs.Common.{◌≡◌, ◌∙◌, ℕ, ◌+◌, ◌≤◌, ◌<◌, Bool, List, [], ◌∷◌, ◌++◌, inl, inr, Some, refl, arith, ap, sym, subst, length, length-append}
use Rattle.apex_machine.specs.table.Table.{Table}
use Rattle.apex_machine.specs.Machine.{Machine, events_of, happen, opening, run}
use Rattle.apex_laws.proofs.Runs.{accept-room, length-happen}
use Rattle.apex_incoming.specs.Ahead.{IsAhead}
use Rattle.apex_check.specs.Faults.{IsFaultOf}
use Rattle.apex_check.specs.Histories.{history_of}
use Rattle.apex_check.specs.Terms.{Event}
use Rattle.apex_check.specs.declared.verdicts.CheckFault.{CheckFault}
use Rattle.apex_check.specs.declared.verdicts.CheckFault.TheVariants.{Memory, Table as BadTable, NoSeparator, BadLine, TooLong, Read, Write}
use Rattle.apex_check.specs.declared.verdicts.Verdict.{Verdict}
use Rattle.apex_check.specs.Verdicts.{HasFollowed, IsAtFault, JudgesLines, beyond, departs, legal}
use Rattle.apex_check.proofs.MoreLines.{counted}
use Rattle.apex_departures.specs.Explained.{IsRefused, ShowsEvent, fault_given, fault_in_memory}
use Rattle.apex_departures.specs.Lines.{followed_text, given_parts}
use Rattle.apex_departures.specs.Why.{HasEvent, LacksEvent}

-- events for which there is room have an entry each
run_fits : (table : Table) (machine : Machine) (events : List Event) → length machine.history + length events ≤ table.limit
    → length machine.history + length events ≤ length (run table machine events).history
run_fits table machine [] fits = omega arith
run_fits table machine (event ∷ events) fits =
    let room : length machine.history < table.limit = omega (arith, fits) in
    let more = length-happen table machine event in
    let rest = run_fits table (happen table machine event) events (omega (arith, fits, more)) in
    subst (λ (m : Machine). length machine.history + length (event ∷ events) ≤ length (run table m events).history)
    (sym (accept-room table machine event room)) (omega (arith, rest, more))

shows : (table : Table) (text : List ℕ) (verdict : Verdict) (made : List Event) (machine : Machine) → JudgesLines table text verdict made
    → machine ≡ run table (opening table) made → ShowsEvent (events_of machine.history) verdict
shows table text verdict made machine (legal follows) ran = tt
shows table text verdict made machine (beyond behind line event follows one named full) ran = tt
shows table text verdict made machine (departs {events} behind line event entry follows one named next other) ran =
    let whole : machine.history ≡ history_of table events ++ entry ∷ [] = ap (λ (m : Machine). m.history) ran ∙ next in
    let fits = run_fits table (opening table) events (omega (arith, follows.2.fits)) in
    let many = length-append (history_of table events) (entry ∷ []) in
    (omega arith, omega (arith, ap length whole, many, fits, counted machine.history))

pub shows_event : (text : List ℕ) (table : Table) (verdict : Verdict) (machine : Machine) → HasFollowed text table verdict machine
    → ShowsEvent (events_of machine.history) verdict
shows_event text table verdict machine found = shows table found.judges.0 verdict found.events machine found.judges.2 found.ran

-- a fault of the text that was followed is that of the text
module _ (comments : Bool) (text : List ℕ) where
  at_fault : (found : CheckFault) → (t : List ℕ) × IsAhead t (Some (followed_text comments text)) × IsAtFault t found
      → IsAtFault (followed_text comments text) found
  at_fault found (t, same, at) = subst (λ x. IsAtFault x found) same at

  pub is_refused : (fault : CheckFault) → IsFaultOf (Some (followed_text comments text)) fault
      → IsRefused comments text (fault_given comments (given_parts text) (fault_in_memory fault))
  is_refused Memory of = tt
  is_refused Read of = tt
  is_refused (BadTable fault) of = (BadTable fault, at_fault (BadTable fault) of, refl)
  is_refused NoSeparator of = (NoSeparator, at_fault NoSeparator of, refl)
  is_refused (BadLine n) of = (BadLine n, at_fault (BadLine n) of, refl)
  is_refused (TooLong n) of = (TooLong n, at_fault (TooLong n) of, refl)
  is_refused Write of = (Write, at_fault Write of, refl)

pub not_lacking : (events : List Event) (number : ℕ) → HasEvent events number → LacksEvent events number → ⊥
not_lacking events number (some, within) (inl none) = omega (arith, some, none)
not_lacking events number (some, within) (inr few) = omega (arith, within, few)
