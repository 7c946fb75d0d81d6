-- The canonical form of a machine decides its future.
use Rattle.std.specs.Prelude.{◌≡◌, ℕ, ◌<◌, List, length, All, Option, Some, slice_get}
use Rattle.apex_types.specs.declared.calls.Call.TheVariants.{Time}
use Rattle.apex_types.specs.declared.calls.TimeCall.TheVariants.{GetTime}
use Rattle.apex_types.specs.declared.entries.Reply.TheVariants.{Value}
use Rattle.apex_machine.specs.Deeds.{Deed}
use Rattle.apex_machine.specs.Machine.{Machine, happen, opening, run, situation_of}
use Rattle.apex_machine.specs.Situations.{Situation, deed}
use Rattle.apex_machine.specs.table.Table.{Table}
use Rattle.apex_alike.specs.Canonical.{canonical}
use Rattle.apex_alike.specs.Closed.{IsAmong, IsSameSituation}
use Rattle.apex_laws.specs.Terms.{Call, Event, Reply}

-- the canonical form of a machine's situation
abbrev pub form : Table → Machine → Situation
form table machine = canonical (situation_of table machine)

-- the two machines have one canonical form
abbrev pub HaveOneForm : Table → Machine → Machine → Type 0
HaveOneForm table one other = IsSameSituation (form table one) (form table other)

-- a reply, but for the value that GET_TIME answers
abbrev pub timeless : Option Call → Reply → Reply
timeless (Some (Time GetTime)) (Value t) = Value 0
timeless call reply = reply

-- the deed of an event of the machine
abbrev pub deed_at : Table → Machine → Event → Deed
deed_at table machine event = deed table (situation_of table machine) event

-- the reply of an event of the machine, but for the value that GET_TIME answers
abbrev pub reply_at : Table → Machine → Event → Reply
reply_at table machine event =
    timeless (deed_at table machine event).call (deed_at table machine event).outcome.reply

-- two machines do the same at an event: the same caller, call and notices, the same reply but for
-- the value that GET_TIME answers; and they have one form after it
pub record DoTheSame (table : Table) (one other : Machine) (event : Event) : Type 0 where
  pub caller : (deed_at table one event).caller ≡ (deed_at table other event).caller
  pub call : (deed_at table one event).call ≡ (deed_at table other event).call
  pub reply : reply_at table one event ≡ reply_at table other event
  pub notices : (deed_at table one event).outcome.notices
      ≡ (deed_at table other event).outcome.notices
  pub form : HaveOneForm table (happen table one event) (happen table other event)

-- two runs that have come to one form do the same at every event
abbrev pub FormsDecide : Table → Type 0
FormsDecide table = (first second : List Event) →
    let one = run table (opening table) first in
    let other = run table (opening table) second in
    length one.history < table.limit → length other.history < table.limit
    → HaveOneForm table one other → (event : Event) → DoTheSame table one other event

-- one of these runs comes to the form of this machine
pub record ComesTo (table : Table) (runs : List (List Event)) (machine : Machine) : Type 0 where
  pub place : ℕ
  pub events : List Event
  pub here : slice_get runs place ≡ Some events
  pub same : HaveOneForm table (run table (opening table) events) machine

-- these runs have come to every form: to that of the opening, and from each of them to that after
-- each event that is asked
pub record ComeToAll (table : Table) (asked : List Event) (runs : List (List Event)) : Type 0 where
  pub opens : ComesTo table runs (opening table)
  pub steps : (k : ℕ) (events : List Event) → slice_get runs k ≡ Some events
      → (i : ℕ) (event : Event) → slice_get asked i ≡ Some event
      → ComesTo table runs (happen table (run table (opening table) events) event)

-- if some runs have come to every form, each run of such events comes to a form to which one of
-- them has come
abbrev pub RunsComeToAll : Table → Type 0
RunsComeToAll table =
    (asked : List Event) (runs : List (List Event)) → ComeToAll table asked runs
    → (events : List Event) → All (IsAmong asked) events
    → ComesTo table runs (run table (opening table) events)
