-- The events before a departure, among those that were made for the verdict.
use Rattle.std.proofs.Common.{◌≡◌, ◌∙◌, ℕ, ◌+◌, ◌-◌, ◌≤◌, ◌<◌, List, [], ◌∷◌, ◌++◌, Option, append-nil, append_assoc, ap, arith, length, refl, sym, subst, take}
use Rattle.std.proofs.Math.Seq.{take-append_seam, take-length}
use Rattle.std.specs.List.{All}
use Rattle.std.proofs.lemmas.List.{map-append}
use Rattle.std.proofs.lemmas.List.Elements.{All-take}
use Rattle.apex_machine.specs.Events.{IsWithin}
use Rattle.apex_check.specs.Histories.{Follows, history_of}
use Rattle.apex_incoming.specs.Lines.{ended}
use Rattle.apex_check.specs.Verdicts.{HasFollowed, JudgesLines, beyond, departs, legal}
use Rattle.apex_check.specs.declared.verdicts.Verdict.{Verdict}
use Rattle.apex_check.specs.declared.verdicts.Verdict.TheVariants.{DepartsAt}
use Rattle.apex_laws.proofs.Runs.{accept-room, length-happen}
use Rattle.apex_laws.proofs.Sound.{told}
use Rattle.apex_machine.specs.Machine.{Machine, event_of, events_of, happen, opening, run}
use Rattle.apex_machine.specs.table.Table.{Table}
use Rattle.apex_types.specs.declared.entries.Entry.{Entry}
use Rattle.apex_types.specs.declared.entries.Event.{Event}
use Rattle.apex_views.specs.Departures.{DepartsBehind}

-- events for which there is room are those of the history
events_after : (table : Table) (machine : Machine) (events : List Event) → length machine.history + length events ≤ table.limit
    → events_of (run table machine events).history ≡ events_of machine.history ++ events
events_after table machine [] fits = sym (append-nil (events_of machine.history))
events_after table machine (event ∷ events) fits =
    let room : length machine.history < table.limit = omega (arith, fits) in
    let more = length-happen table machine event in
    let rest = events_after table (happen table machine event) events (omega (arith, fits, more)) in
    subst (λ (m : Machine). events_of (run table m events).history ≡ events_of machine.history ++ (event ∷ events))
    (sym (accept-room table machine event room))
    (rest ∙ ap (λ (l : List Event). l ++ events) (told table machine event) ∙ append_assoc (events_of machine.history) (event ∷ []) events)

-- the first of some events are of the same cores
pub take_within : (cores n : ℕ) (events : List Event) → All (IsWithin cores) events → All (IsWithin cores) (take n events)
take_within cores n events all = All-take (IsWithin cores) n events all

-- the first n - 1 of some events are these
first_events : (all events : List Event) (n : ℕ) → n ≡ length events + 1 → take (length events) all ≡ events → take (n - 1) all ≡ events
first_events all events n many is =
    let place : n - 1 ≡ length events = omega (arith, many) in
    ap (λ (k : ℕ). take k all) place ∙ is

-- the lines before line n name these events, which are the first n - 1 of those that were made
pub record Before (table : Table) (behind : List ℕ) (n : ℕ) (machine : Machine) : Type 0 where
  pub events : List Event
  pub rest : List ℕ
  pub follows : Follows table behind events rest
  pub many : n ≡ length events + 1
  pub first : take (n - 1) (events_of machine.history) ≡ events

before_is : (table : Table) (behind : List ℕ) (verdict : Verdict) (made : List Event) (n : ℕ) (expected : Option Entry) (machine : Machine)
    → JudgesLines table behind verdict made → verdict ≡ DepartsAt n expected → machine ≡ run table (opening table) made
    → Before table behind n machine
before_is table behind verdict made n expected machine (legal follows) is ran =
    let no : ⊥ = cc in
    absurd no
before_is table behind verdict made n expected machine (departs {events} later line event entry follows one named next other) is ran =
    let many : n ≡ length events + 1 = cc in
    let all : events_of (history_of table events) ≡ events = events_after table (opening table) events (omega (arith, follows.2.fits)) in
    let whole : machine.history ≡ history_of table events ++ entry ∷ [] = ap (λ (m : Machine). m.history) ran ∙ next in
    let split : events_of machine.history ≡ events ++ event_of entry ∷ [] =
    ap events_of whole ∙ map-append event_of (history_of table events) (entry ∷ []) ∙ ap (λ (l : List Event). l ++ event_of entry ∷ []) all in
    record {
      events = events;
      rest = ended line ++ later;
      follows = follows;
      many = many;
      first = first_events _ events n many (ap (take (length events)) split ∙ take-append_seam events (event_of entry ∷ []));
    }
before_is table behind verdict made n expected machine (beyond {events} later line event follows one named full) is ran =
    let many : n ≡ length events + 1 = cc in
    let all : events_of machine.history ≡ events =
    ap (λ (m : Machine). events_of m.history) ran ∙ events_after table (opening table) events (omega (arith, follows.2.fits)) in
    record {
      events = events;
      rest = ended line ++ later;
      follows = follows;
      many = many;
      first = first_events _ events n many (ap (take (length events)) all ∙ take-length events);
    }

pub departs_behind : (text : List ℕ) (table : Table) (n : ℕ) (expected : Option Entry) (machine : Machine)
    → HasFollowed text table (DepartsAt n expected) machine
    → DepartsBehind text table n expected (run table (opening table) (take (n - 1) (events_of machine.history)))
departs_behind text table n expected machine found =
    let (behind, begins, judged) = found.judges in
    let before = before_is table behind (DepartsAt n expected) found.events n expected machine judged refl found.ran in
    record {
      behind = behind;
      rest = before.rest;
      events = before.events;
      judges = (found.events, found.judges);
      begins = begins;
      follows = before.follows;
      many = before.many;
      ran = ap (run table (opening table)) before.first;
    }
