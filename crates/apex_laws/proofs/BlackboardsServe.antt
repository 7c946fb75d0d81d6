-- Blackboards: their services as those of objects for which processes wait.
use Rattle.std.proofs.Common.{fold, ◌≡◌, ℕ, not, List, [], Option, None, Some, lit≤, refl}
use Rattle.std.proofs.lemmas.Option.{none-some}
use Rattle.apex_laws.specs.Terms.{Call, Entry, Message, Record, Timeout, Wait}
use Rattle.apex_types.specs.declared.calls.Call.TheVariants as call
use Rattle.apex_types.specs.declared.entries.Caller.TheVariants.{Process}
use Rattle.apex_types.specs.declared.calls.BlackboardService.TheVariants.{Display, Read, Clear}
use Rattle.apex_types.specs.declared.calls.ObjectCall.TheVariants.{Create, KindService}
use Rattle.apex_types.specs.declared.calls.Named.TheVariants.{Known}
use Rattle.apex_machine.specs.declared.records.Queue.TheVariants as queues
use Rattle.apex_types.specs.declared.entries.Reply.TheVariants.{Code, Message as Gets}
use Rattle.apex_types.specs.declared.entries.ReturnCode.TheVariants.{NoError}
use Rattle.apex_machine.specs.declared.records.Wait.TheVariants.{Blackboard}
use Rattle.apex_types.specs.Calls.{object_of}
use Rattle.apex_machine.specs.services.Calls.{created_blackboard, shown_after}
use Rattle.apex_machine.specs.services.Callers.{IsReady}
use Rattle.apex_machine.specs.services.BlackboardServices.{blackboard_kind, read_shown}
use Rattle.apex_machine.specs.processes.Owners.{is_waiting_owner}
use Rattle.apex_machine.specs.processes.Roster.{Roster, record_at}
use Rattle.apex_machine.specs.services.Satisfied.{blackboard_message}
use Rattle.apex_types.specs.Messages.{is_unfit}
use Rattle.apex_machine.specs.processes.Stamps.{receive}
use Rattle.apex_machine.specs.table.Table.{BlackboardConfig, no_blackboard}
use Rattle.apex_machine.proofs.Reaches.{reaches_receive}
use Rattle.apex_machine.proofs.Rows.{by_caller}
use Rattle.apex_laws.specs.AskedWaits.{begins}
use Rattle.apex_laws.proofs.AskedWaits.{frees_moved, held_still, still_freed}
use Rattle.apex_laws.proofs.WaitedServe.{Before, KeepsWaited, OwnServed, Served, Waited, calls_before, created_before, folds_on, folds_one, guard, object_before, served_all, served_alone, served_refused, served_waiting, waited_laws}
use Rattle.apex_laws.proofs.ObjectsServe.{LawsOf, then_some}
use Rattle.apex_laws.proofs.Serving.{arrives_by, serves_freed, serves_same}
use Rattle.apex_laws.proofs.Truths.{other}

-- a call that begins a wait displays and clears nothing
pub begins_shown : (c : Call) (w : Wait) → begins c ≡ Some w → (shown : Option Message) → shown_after shown c ≡ shown
begins_shown (call.Blackboard (KindService b (Display message))) w h shown = absurd (none-some w h)
begins_shown (call.Blackboard (KindService b Clear)) w h shown = absurd (none-some w h)
begins_shown _ w h shown = refl

-- a process that waits for a blackboard waits while it holds nothing
abbrev pub waited_blackboard : Waited blackboard_kind
waited_blackboard = record {
  V = Option Message;
  to = call.Blackboard;
  creation = created_blackboard;
  nothing = no_blackboard;
  queue = queues.Blackboard;
  value = λ config calls. fold shown_after None calls;
  Holds = λ config calls shown. fold shown_after None calls ≡ shown;
  Lacks = λ config shown w. shown ≡ None;
  object = λ config created shown. record { longest = config.length; created = created; message = shown };
  reads = λ config calls shown is. is;
  after = λ history b config. refl;
  made = λ config created shown. refl;
  created = λ call. refl;
  named = λ call. then_some queues.Blackboard (object_of call);
  differs = other;
  unlike = λ b m. refl;
  apart = λ b. refl;
  new = λ b config calls shown is. folds_one shown_after None calls shown (call.Blackboard (Create (Known b))) is;
  status = λ roster x b. refl;
}

abbrev pub KeepsBlackboard : Roster → List Entry → ℕ → BlackboardConfig → Type 0
KeepsBlackboard = KeepsWaited waited_blackboard

-- READ_BLACKBOARD, by its process
module _ (here : Before waited_blackboard) (p : ℕ) (by : here.caller ≡ Process p) (ready : IsReady here.roster p) (timeout : Timeout) where
  served_read : (shown : Option Message) → blackboard_message here.i here.history ≡ shown
      → Served waited_blackboard here (Read timeout) (read_shown here.roster (object_before waited_blackboard here) here.i p timeout shown)
  served_read None is =
      served_waiting waited_blackboard here p by ready (Read timeout) (Blackboard here.i) refl refl (λ m e. cc) is timeout
  served_read (Some message) is =
      let after = receive here.roster p message in
      let r : Record = record (record_at here.roster p) { inbox = Some message } in
      let frees = frees_moved here.roster after p r refl (λ w h. h) in
      let queue = queues.Blackboard here.i in
      served_alone waited_blackboard here (Read timeout) after (Gets message) (blackboard_message here.i here.history) refl
      (serves_freed here.roster here.caller _ _ after [] (arrives_by 0 (lit≤ tt) (reaches_receive here.roster p ready.known message)) frees (λ q. refl))
      (folds_one shown_after None (calls_before waited_blackboard here) (blackboard_message here.i here.history) (call.Blackboard (KindService here.i (Read timeout))) refl)
      (held_still (waited_blackboard.Lacks here.c (blackboard_message here.i here.history)) queue here.roster after here.keeps.held (still_freed queue here.roster after frees))

pub blackboard_served : OwnServed waited_blackboard
blackboard_served here (Display message) =
    guard waited_blackboard here (Display message) (not (created_before waited_blackboard here)) _ _ refl (λ _.
    guard waited_blackboard here (Display message) (is_unfit here.c.length message) _ _ refl (λ _.
    served_all waited_blackboard here (Display message) (Some message) (Some message)
    (folds_on shown_after None (calls_before waited_blackboard here) (blackboard_message here.i here.history) (call.Blackboard (KindService here.i (Display message))) refl begins_shown _)))
blackboard_served here Clear =
    guard waited_blackboard here Clear (not (created_before waited_blackboard here)) _ _ refl (λ _.
    served_alone waited_blackboard here Clear here.roster (Code NoError) None refl (serves_same here.roster here.caller _ _)
    (folds_one shown_after None (calls_before waited_blackboard here) (blackboard_message here.i here.history) (call.Blackboard (KindService here.i Clear)) refl) (λ p w waits is. refl))
blackboard_served here (Read timeout) =
    guard waited_blackboard here (Read timeout) (not (created_before waited_blackboard here)) _ _ refl (λ _.
    guard waited_blackboard here (Read timeout) (is_waiting_owner here.roster here.caller timeout) _ _ refl (λ _.
    by_caller here.roster (object_before waited_blackboard here) (Served waited_blackboard here (Read timeout))
    (served_refused waited_blackboard here (Read timeout)) here.caller _
    (λ p by. served_read here p by (rw by at here.scene.ready) timeout (blackboard_message here.i here.history) refl)))

-- blackboards are objects of a kind
abbrev pub blackboard_laws : LawsOf blackboard_kind
blackboard_laws = waited_laws waited_blackboard blackboard_served
