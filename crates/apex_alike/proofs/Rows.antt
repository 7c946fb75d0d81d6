-- The rows of services keep rosters alike.
use Rattle.std.proofs.Common.{◌≡◌, ℕ, ◌+◌, ◌<◌, Bool, false, cond, List, length, Option, None, Some, pos, refl, ap, arith}
use Rattle.std.proofs.lemmas.Bool.{both_ways}
use Rattle.std.proofs.lemmas.Option.{none-some}
use Rattle.std.specs.Prelude.{◌&&◌, not, slice_set, slice_index_or}
use Rattle.apex_laws.specs.Terms.{Caller, ObjectCall, Reply, ReturnCode, Timeout, Wait}
use Rattle.apex_types.specs.declared.entries.Caller.TheVariants.{Process, Init, Nobody}
use Rattle.apex_types.specs.declared.calls.ObjectCall.TheVariants.{Create, GetId, GetStatus, KindService}
use Rattle.apex_types.specs.declared.entries.Reply.TheVariants.{Value}
use Rattle.apex_types.specs.declared.entries.ReturnCode.TheVariants.{InvalidConfig, InvalidMode, InvalidParam, NoAction, NotAvailable}
use Rattle.apex_types.specs.declared.calls.Timeout.TheVariants.{Poll, Ticks, Infinite}
use Rattle.apex_machine.specs.processes.Dues.{due_after}
use Rattle.apex_machine.specs.processes.Owners.{is_owner, is_poll, is_waiting_owner, owns_some, record_of}
use Rattle.apex_machine.specs.processes.Periods.{awaits_first}
use Rattle.apex_machine.specs.processes.Roster.{Roster, nobody, record_at}
use Rattle.apex_types.specs.Modes.{is_normal}
use Rattle.apex_types.specs.Calls.{object_of}
use Rattle.apex_machine.specs.services.InTurn.{Changed}
use Rattle.apex_machine.specs.services.Objects.{ObjectKind, deed_at, no_entry, object_deed, object_service}
use Rattle.apex_machine.specs.services.Rows.{Outcome, answered_with, by_process, refused, replied, within}
use Rattle.apex_machine.specs.services.Waiting.{blocked, wait_for}
use Rattle.apex_alike.specs.Alike.{AreAlike, AreAlikeChanges, AreAlikeOutcomes, IsLater, awaits_normal}
use Rattle.apex_alike.proofs.Changes.{both_cond}
use Rattle.apex_alike.proofs.Stamps.{alike_block, alike_due}

pub nobody_later : (d now : ℕ) → IsLater d now nobody nobody
nobody_later d now = record {
  since = pos 0;
  release = 0;
  inbox = None;
  is = refl;
  released = λ begun. absurd (both_ways false refl begun);
  undue = λ h. refl;
  before = omega arith;
  spans = λ n e. absurd (none-some n e);
}

module _ {d : ℕ} {first second : Roster} (alike : AreAlike d first second) where
  -- the record of the caller
  pub caller_later : (caller : Caller) → IsLater d first.now (record_of first caller) (record_of second caller)
  caller_later (Process p) = alike.each p
  caller_later Init = nobody_later d first.now
  caller_later Nobody = nobody_later d first.now

  pub same_owning : (caller : Caller) → is_owner second caller ≡ is_owner first caller
  same_owning caller = ap owns_some (caller_later caller).is

  pub same_waiting_owner : (caller : Caller) (timeout : Timeout) → is_waiting_owner second caller timeout ≡ is_waiting_owner first caller timeout
  same_waiting_owner caller timeout = ap (λ (b : Bool). b && not (is_poll timeout)) (same_owning caller)

  pub same_normal : is_normal second.mode ≡ is_normal first.mode
  same_normal = ap is_normal alike.mode

  module _ {X : Type 0} (object : X) where
    abbrev Alike : Outcome X → Outcome X → Type 0
    Alike one other = AreAlikeOutcomes d one other

    pub alike_replied : (reply : Reply) → Alike (replied first object reply) (replied second object reply)
    alike_replied reply = record { rosters = alike; object = refl; reply = refl; notices = refl }

    pub alike_refused : (code : ReturnCode) → Alike (refused first object code) (refused second object code)
    alike_refused code = record { rosters = alike; object = refl; reply = refl; notices = refl }

    -- one guard, and the rest of the fields if it does not hold
    pub alike_guard : (holds holds2 : Bool) (code : ReturnCode) → holds2 ≡ holds → (rest rest2 : Outcome X)
        → (holds ≡ false → Alike rest rest2)
        → Alike (cond holds (refused first object code) rest) (cond holds2 (refused second object code) rest2)
    alike_guard holds holds2 code same rest rest2 passes =
        both_cond {A = Outcome X} {B = Outcome X} Alike holds holds2 same _ _ _ _ (λ _. alike_refused code) passes

    -- a service for a process that calls
    pub alike_by : (caller : Caller) (effect effect2 : ℕ → Outcome X)
        → ((p : ℕ) → caller ≡ Process p → Alike (effect p) (effect2 p))
        → Alike (by_process first object caller effect) (by_process second object caller effect2)
    alike_by (Process p) effect effect2 serves = serves p refl
    alike_by Init effect effect2 serves = alike_refused InvalidMode
    alike_by Nobody effect effect2 serves = alike_refused InvalidMode

    -- a process that has been released begins to wait
    module _ (p : ℕ) (known : p < length first.records) (free : awaits_first (record_at first p).wait ≡ false) where
      pub alike_blocked : (wait : Wait) (timeout : Timeout) → awaits_normal (Some wait) ≡ false
          → Alike (blocked first object p wait timeout) (blocked second object p wait timeout)
      alike_blocked wait timeout late = record {
        rosters = alike_block alike p known wait (due_after first timeout) (due_after second timeout) (alike_due alike timeout)
            (λ _. free) (λ h. absurd (both_ways _ late h));
        object = refl;
        reply = refl;
        notices = refl;
      }

      pub alike_wait_for : (wait : Wait) (timeout : Timeout) → awaits_normal (Some wait) ≡ false
          → Alike (wait_for first object p wait timeout) (wait_for second object p wait timeout)
      alike_wait_for wait Poll late = alike_refused NotAvailable
      alike_wait_for wait (Ticks n) late = alike_blocked wait (Ticks n) late
      alike_wait_for wait Infinite late = alike_blocked wait Infinite late

-- services that end with changes of rosters
pub alike_answered : {d : ℕ} {X : Type 0} (reply : Reply) (object : X) {one other : Changed} → AreAlikeChanges d one other
    → AreAlikeOutcomes d (answered_with reply object one) (answered_with reply object other)
alike_answered reply object changes = record { rosters = changes.rosters; object = refl; reply = refl; notices = changes.notices }

-- an outcome whose object is put into a whole
pub alike_within : {d : ℕ} {X Y : Type 0} (whole : X → Y) {one other : Outcome X} → AreAlikeOutcomes d one other
    → AreAlikeOutcomes d (within whole one) (within whole other)
alike_within whole outcomes = record {
  rosters = outcomes.rosters;
  object = ap whole outcomes.object;
  reply = outcomes.reply;
  notices = outcomes.notices;
}

-- the services of a kind whose own services and status are alike
module _ {d : ℕ} {first second : Roster} (alike : AreAlike d first second) {C X W : Type 0} (kind : ObjectKind C X W) (caller : Caller)
    (statuses : (object : X) (i : ℕ) → kind.status second object i ≡ kind.status first object i) where
  alike_object : (object : X) (place : ℕ) (call : ObjectCall ℕ W)
      → ((service : W)
      → AreAlikeOutcomes d (kind.service first object place caller service) (kind.service second object place caller service))
      → AreAlikeOutcomes d (object_service kind first object place caller call) (object_service kind second object place caller call)
  alike_object object place (Create named) serves =
      alike_guard alike object (is_normal first.mode) (is_normal second.mode) InvalidMode (ap is_normal alike.mode) _ _ (λ _.
      alike_guard alike object (kind.created object) (kind.created object) NoAction refl _ _ (λ _.
      record { rosters = alike; object = refl; reply = refl; notices = refl }))
  alike_object object place (GetId named) serves =
      alike_guard alike object (not (kind.created object)) (not (kind.created object)) InvalidConfig refl _ _ (λ _.
      alike_replied alike object (Value (place + 1)))
  alike_object object place (GetStatus i) serves =
      alike_guard alike object (not (kind.created object)) (not (kind.created object)) InvalidParam refl _ _ (λ _.
      record { rosters = alike; object = refl; reply = statuses object place; notices = refl })
  alike_object object place (KindService i service) serves = serves service

  alike_no_entry : (objects : List X) (call : ObjectCall ℕ W) → AreAlikeOutcomes d (no_entry first objects call) (no_entry second objects call)
  alike_no_entry objects (Create named) =
      alike_guard alike objects (is_normal first.mode) (is_normal second.mode) InvalidMode (ap is_normal alike.mode) _ _ (λ _.
      alike_refused alike objects InvalidConfig)
  alike_no_entry objects _ = alike_refused alike objects InvalidConfig

  pub alike_deed : (objects : List X) (call : ObjectCall ℕ W)
      → ((i : ℕ) → object_of call ≡ Some i → (object : X) (service : W)
      → AreAlikeOutcomes d (kind.service first object i caller service) (kind.service second object i caller service))
      → AreAlikeOutcomes d (object_deed kind first objects caller call) (object_deed kind second objects caller call)
  alike_deed objects call serves = by_place (object_of call) refl where
    by_place : (found : Option ℕ) → object_of call ≡ found
        → AreAlikeOutcomes d (deed_at kind first objects caller call found) (deed_at kind second objects caller call found)
    by_place None is = alike_no_entry objects call
    by_place (Some i) is =
        let object = slice_index_or objects i kind.absent in
        alike_within (slice_set objects i) (alike_object object i call (serves i is object))
