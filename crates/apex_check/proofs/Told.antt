-- A legal text has no other verdict, and no fault.
use Rattle.std.proofs.Common.{◌≡◌, ◌∙◌, ℕ, List, [], ◌∷◌, Option, Some, Result, Ok, Err, refl, sym, ap, subst, arith, length, length-append}
use Rattle.std.specs.Prelude.{IfSome}
use Rattle.apex_check.specs.Terms.{Event}
use Rattle.apex_machine.specs.table.Table.{Table}
use Rattle.apex_machine.specs.Machine.{Machine, opening, run}
use Rattle.apex_history.specs.Ports.{Ports}
use Rattle.apex_check.specs.declared.verdicts.Verdict.{Verdict}
use Rattle.apex_check.specs.declared.verdicts.Verdict.TheVariants.{Legal}
use Rattle.apex_check.specs.declared.verdicts.CheckFault.{CheckFault}
use Rattle.apex_check.specs.Checks.{Checks, no_memory, refused, unread, unwritten, written}
use Rattle.apex_check.specs.Histories.{Follows}
use Rattle.apex_check.specs.Legal.{IsLegal, SaysLegal}
use Rattle.apex_check.specs.Verdicts.{HasFollowed, IsAtFault, Judges, JudgesLines, LineIsAtFault, at_line, bad, beyond, departs, legal, no_separator, no_table, too_long, unended}
use Rattle.apex_check.proofs.Apart.{begins_once, parts_nowhere, reads_once}
use Rattle.apex_check.proofs.GoesOn.{goes_on, next_named, none_behind, not_too_long, not_unended, same_line}

-- ---- the lines of a whole history

module _ (table : Table) (text : List ℕ) (all : List Event) (whole : Follows table text all []) where
  only_legal : (verdict : Verdict) (made : List Event) → JudgesLines table text verdict made → verdict ≡ Legal (length all)
  only_legal verdict made (legal {events} follows) =
      ap (λ (l : List Event). Legal (length l)) (sym (none_behind (goes_on table text [] all events whole follows)))
  only_legal verdict made (departs {events} behind line event entry follows one named next other) =
      absurd (other (same_line table text behind line all events event entry whole follows one named next))
  only_legal verdict made (beyond {events} behind line event follows one named full) =
      let on = goes_on table text _ all events whole follows in
      let (found, later, names, is) = next_named table events all line behind on one in
      absurd (omega (arith, full, whole.2.fits, ap length is, length-append events (found ∷ later)))

  no_line_fault : (fault : CheckFault) → LineIsAtFault table text fault → ⊥
  no_line_fault fault (bad {events} behind line follows one named) =
      let (found, later, names, is) = next_named table events all line behind (goes_on table text _ all events whole follows) one in
      let both = sym named ∙ names in
      cc
  no_line_fault fault (unended {events} rest follows one some few) =
      not_unended rest (goes_on table text rest all events whole follows) one some
  no_line_fault fault (too_long {events} behind line follows one long) =
      not_too_long line behind (goes_on table text _ all events whole follows) one long

-- ---- the whole text

module _ (text : List ℕ) (n : ℕ) (is : IsLegal text n) where
  pub one_verdict : (table : Table) (verdict : Verdict) → Judges text table verdict → verdict ≡ Legal n
  one_verdict table verdict (made, (behind, begins, judges)) =
      let (same, ends) = begins_once text table is.table behind is.behind begins is.begins in
      let judged : JudgesLines is.table behind verdict made = subst (λ (t : Table). JudgesLines t behind verdict made) same judges in
      let here : JudgesLines is.table is.behind verdict made = subst (λ b. JudgesLines is.table b verdict made) ends judged in
      only_legal is.table is.behind is.events is.follows verdict made here ∙ ap Legal is.many

  pub no_fault : (fault : CheckFault) → IsAtFault text fault → ⊥
  no_fault fault (no_separator none) =
      let (front, parted, reads) = is.begins in
      parts_nowhere text front is.behind none parted
  no_fault fault (no_table front behind {fault = found} parted fails other) =
      reads_once text is.table front is.behind behind found is.begins parted fails
  no_fault fault (at_line table behind begins at) =
      let (same, ends) = begins_once text table is.table behind is.behind begins is.begins in
      let found : LineIsAtFault is.table behind fault = subst (λ (t : Table). LineIsAtFault t behind fault) same at in
      let here : LineIsAtFault is.table is.behind fault = subst (λ b. LineIsAtFault is.table b fault) ends found in
      no_line_fault is.table is.behind is.events is.follows fault here

-- a text whose verdict is legal is legal
legal_lines : (table : Table) (text : List ℕ) (n : ℕ) (verdict : Verdict) (made : List Event) → JudgesLines table text verdict made
    → verdict ≡ Legal n → Follows table text made [] × (length made ≡ n)
legal_lines table text n verdict made (legal follows) e = (follows, cc)
legal_lines table text n verdict made (departs {events} behind line event entry follows one named next other) e =
    let no : ⊥ = cc in
    absurd no
legal_lines table text n verdict made (beyond {events} behind line event follows one named full) e =
    let no : ⊥ = cc in
    absurd no

legal_told : (text : List ℕ) (table : Table) (n : ℕ) (verdict : Verdict) → Judges text table verdict → verdict ≡ Legal n → IsLegal text n
legal_told text table n verdict (events, (behind, begins, judges)) e =
    let (follows, many) = legal_lines table behind n verdict events judges e in
    record { table = table; behind = behind; events = events; begins = begins; follows = follows; many = many }

-- ---- the answer of a check

not_ok : (fault : CheckFault) (verdict : Verdict) → Err fault ≡ Ok verdict → ⊥
not_ok fault verdict e = cc

one_answer : (answer : Result Verdict CheckFault) (one other : Verdict) → answer ≡ Ok one → answer ≡ Ok other → one ≡ other
one_answer answer one other e f = cc

known_text : (known : Option (List ℕ)) (text found : List ℕ) → known ≡ Some text → IfSome known (λ xs. found ≡ xs) → found ≡ text
known_text known text found e left = subst (λ (o : Option (List ℕ)). IfSome o (λ xs. found ≡ xs)) e left

pub is_told : {before after : Ports} → (answer : Result Verdict CheckFault) → Checks before answer after → SaysLegal before.left answer
is_told answer (no_memory held fails) = λ text n known asked. absurd asked
is_told answer (unread held fails) = λ text n known asked. absurd asked
is_told {before} answer (refused found {fault} left at held fails) = λ text n known asked.
    let here : IsAtFault text fault = subst (λ t. IsAtFault t fault) (known_text before.left text found known left) at in
    (λ told. absurd (not_ok fault (Legal n) told), λ is. absurd (no_fault text n is fault here))
is_told {before} answer (written found table {verdict} left judges appends fails) = λ text n known asked.
    let here : Judges text table verdict = subst (λ t. Judges t table verdict) (known_text before.left text found known left) judges in
    (λ told. legal_told text table n verdict here (one_answer (Ok verdict) verdict (Legal n) refl told), λ is. ap Ok (one_verdict text n is table verdict here))
is_told answer (unwritten found table verdict left judges appends fails) = λ text n known asked. absurd asked

-- ---- a history that was followed

-- a legal history, and the machine after its events
pub legal_machine : (text : List ℕ) (table : Table) (n : ℕ) (machine : Machine) → HasFollowed text table (Legal n) machine
    → (is : IsLegal text n) × (is.table ≡ table) × (run is.table (opening is.table) is.events ≡ machine)
legal_machine text table n machine found =
    let (behind, begins, judges) = found.judges in
    let (follows, many) = legal_lines table behind n (Legal n) found.events judges refl in (
      record { table = table; behind = behind; events = found.events; begins = begins; follows = follows; many = many },
      refl,
      sym found.ran,
    )
