-- The outcome of a service, and the rows of the services: guards in order, then the effect.
use Rattle.std.specs.Prelude.{◌≡◌, ℕ, Bool, List, [], ◌∷◌, ◌++◌, if◌then◌else◌}
use Rattle.apex_machine.specs.Terms.{Caller, Notice, Reply, ReturnCode}
use Rattle.apex_types.specs.declared.entries.Caller.TheVariants.{Process, Init, Nobody}
use Rattle.apex_types.specs.declared.entries.Reply.TheVariants.{Code}
use Rattle.apex_types.specs.declared.entries.ReturnCode.TheVariants.{NoError, InvalidMode}
use Rattle.apex_machine.specs.services.InTurn.{Changed}
use Rattle.apex_machine.specs.processes.Roster.{Roster}

-- the outcome of a service: the roster and the object that it leaves, its reply and its notices;
-- the object is whatever it works on besides the roster
pub record Outcome (X : Type 0) : Type 0 where
  pub roster : Roster
  pub object : X
  pub reply : Reply
  pub notices : List Notice

-- answered with this reply; nothing changes
abbrev pub replied : {X : Type 0} → Roster → X → Reply → Outcome X
replied roster object reply =
    record { roster = roster; object = object; reply = reply; notices = [] }

-- refused with this code; nothing changes
abbrev pub refused : {X : Type 0} → Roster → X → ReturnCode → Outcome X
refused roster object code = replied roster object (Code code)

-- answered NO_ERROR, with the roster, the object and the notices of the service
abbrev pub accepted : {X : Type 0} → Roster → X → List Notice → Outcome X
accepted roster object notices =
    record { roster = roster; object = object; reply = Code NoError; notices = notices }

-- answered with this reply, and these changes
abbrev pub answered_with : {X : Type 0} → Reply → X → Changed → Outcome X
answered_with reply object changed =
    record { roster = changed.roster; object = object; reply = reply; notices = changed.notices }

-- accepted, with these changes
abbrev pub accepted_with : {X : Type 0} → X → Changed → Outcome X
accepted_with object changed = answered_with (Code NoError) object changed

-- a guard: if it holds, the call is refused with its code
pub record Guard : Type 0 where
  pub holds : Bool
  pub code : ReturnCode

infixl 90 ◌⟶◌
abbrev pub ◌⟶◌ : Bool → ReturnCode → Guard
holds ⟶ code = record { holds = holds; code = code }

-- a row: the first guard that holds refuses the call, else the effect
abbrev pub guarded : {X : Type 0} → Roster → X → List Guard → Outcome X → Outcome X
guarded roster object [] effect = effect
guarded roster object (guard ∷ guards) effect =
    if guard.holds then refused roster object guard.code else guarded roster object guards effect

-- a service for a process that calls; an init step is refused
abbrev pub by_process : {X : Type 0} → Roster → X → Caller → (ℕ → Outcome X) → Outcome X
by_process roster object (Process p) effect = effect p
by_process roster object Init effect = refused roster object InvalidMode
by_process roster object Nobody effect = refused roster object InvalidMode

-- the outcome with its object put into a whole
abbrev pub within : {X Y : Type 0} → (X → Y) → Outcome X → Outcome Y
within whole outcome = record {
  roster = outcome.roster;
  object = whole outcome.object;
  reply = outcome.reply;
  notices = outcome.notices;
}

-- a service left the roster, the object and the reply of its outcome, and its notices come behind
-- those that were there
pub record Leaves {X : Type 0} (outcome : Outcome X) (left : Roster) (object : X) (answer : Reply)
    (before after : List Notice) : Type 0 where
  pub roster : left ≡ outcome.roster
  pub kept : object ≡ outcome.object
  pub reply : answer ≡ outcome.reply
  pub notices : after ≡ before ++ outcome.notices
