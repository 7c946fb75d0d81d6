-- Situations that are alike, and events that keep them so.
use Rattle.std.specs.Prelude.{◌≡◌, ℕ, ◌+◌, ◌<◌, length, Option, Some}
use Rattle.apex_laws.specs.Terms.{Call, Event, OpenWork, Reply}
use Rattle.apex_types.specs.declared.calls.Call.TheVariants.{Time}
use Rattle.apex_types.specs.declared.calls.TimeCall.TheVariants.{GetTime}
use Rattle.apex_types.specs.declared.entries.Reply.TheVariants.{Value}
use Rattle.apex_machine.specs.Deeds.{Deed}
use Rattle.apex_machine.specs.Situations.{Situation, deed, step}
use Rattle.apex_machine.specs.processes.Dues.{HasNoPastDeadline, HasNoPastDue}
use Rattle.apex_machine.specs.processes.Stamps.{HasOrderlyStarts, WaitsForOne}
use Rattle.apex_machine.specs.table.Table.{Table}
use Rattle.apex_alike.specs.Alike.{AreAlike}

-- the second situation is the first one d later: what is watched beside it, such as the ticks that
-- open work has taken, is compared beside this relation
pub record AreAlikeSituations (d : ℕ) (one other : Situation) : Type 0 where
  pub rosters : AreAlike d one.roster other.roster
  pub objects : other.objects ≡ one.objects
  pub works : (core : ℕ) → other.works core ≡ one.works core
  pub made : other.made ≡ one.made

-- the reply to a call, d later: GET_TIME answers a later instant, all others the same
abbrev pub later_reply : ℕ → Option Call → Reply → Reply
later_reply d (Some (Time GetTime)) (Value t) = Value (t + d)
later_reply d call reply = reply

-- the second deed is the first one d later
pub record AreAlikeDeeds (d : ℕ) (one other : Deed) : Type 0 where
  pub caller : other.caller ≡ one.caller
  pub call : other.call ≡ one.call
  pub rosters : AreAlike d one.outcome.roster other.outcome.roster
  pub object : other.outcome.object ≡ one.outcome.object
  pub reply : other.outcome.reply ≡ later_reply d one.call one.outcome.reply
  pub notices : other.outcome.notices ≡ one.outcome.notices

-- there is a record for each process of the table, a process that suspended itself waits for
-- nothing else, starts are in order, no due and no deadline is past, and each process with open work
-- is one of the table
pub record IsSituated (table : Table) (s : Situation) : Type 0 where
  pub many : length s.roster.records ≡ length table.processes
  pub one : WaitsForOne s.roster
  pub starts : HasOrderlyStarts s.roster
  pub dues : HasNoPastDue s.roster
  pub deadlines : HasNoPastDeadline s.roster
  pub workers : (core : ℕ) (o : OpenWork) → s.works core ≡ Some o
      → o.work.process < length s.roster.records

-- an event in situations that are alike: its deeds are alike, and the situations stay so
pub record AreAlikeSteps (d : ℕ) (table : Table) (one other : Situation)
    (event : Event) : Type 0 where
  pub deeds : AreAlikeDeeds d (deed table one event) (deed table other event)
  pub situations : AreAlikeSituations d (step table one event) (step table other event)

-- on a lawful table every event keeps situations alike
abbrev pub AlikeStepsStayAlike : Table → Type 0
AlikeStepsStayAlike table = (d : ℕ) (one other : Situation) → IsSituated table one
    → AreAlikeSituations d one other → (event : Event) → AreAlikeSteps d table one other event
