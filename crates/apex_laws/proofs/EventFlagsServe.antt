-- Event flags: their services as those of objects for which processes wait.
use Rattle.std.proofs.Common.{fold, ◌≡◌, ℕ, Bool, true, false, not, List, None, Some, refl}
use Rattle.std.proofs.lemmas.Bool.{cond_both}
use Rattle.std.proofs.lemmas.Option.{none-some}
use Rattle.apex_laws.specs.Terms.{Call, Entry, Wait as ForWhat}
use Rattle.apex_types.specs.declared.calls.Call.TheVariants as call
use Rattle.apex_types.specs.declared.calls.EventFlagService.TheVariants.{Set, Reset, Wait}
use Rattle.apex_types.specs.declared.calls.ObjectCall.TheVariants.{Create, KindService}
use Rattle.apex_types.specs.declared.calls.Named.TheVariants.{Known}
use Rattle.apex_machine.specs.declared.records.Queue.TheVariants as queues
use Rattle.apex_types.specs.declared.entries.Reply.TheVariants.{Code}
use Rattle.apex_types.specs.declared.entries.ReturnCode.TheVariants.{NoError}
use Rattle.apex_machine.specs.declared.records.Wait.TheVariants.{EventFlag}
use Rattle.apex_types.specs.Calls.{object_of}
use Rattle.apex_machine.specs.services.Calls.{created_event_flag, up_after}
use Rattle.apex_machine.specs.services.EventFlagServices.{EventFlagObject, event_flag_kind}
use Rattle.apex_machine.specs.processes.Owners.{is_waiting_owner}
use Rattle.apex_machine.specs.processes.Roster.{Roster}
use Rattle.apex_machine.specs.services.Rows.{Outcome}
use Rattle.apex_machine.specs.services.Satisfied.{is_up}
use Rattle.apex_machine.specs.table.Table.{EventFlagConfig, no_event_flag}
use Rattle.apex_machine.proofs.Rows.{by_caller}
use Rattle.apex_laws.specs.AskedWaits.{begins}
use Rattle.apex_laws.proofs.WaitedServe.{KeepsWaited, OwnServed, Served, Waited, calls_before, created_before, folds_on, folds_one, guard, object_before, served_all, served_alone, served_refused, served_waiting, waited_laws}
use Rattle.apex_laws.proofs.ObjectsServe.{LawsOf, then_some}
use Rattle.apex_laws.proofs.Serving.{serves_same}
use Rattle.apex_laws.proofs.Truths.{other}

-- a call that begins a wait sets and resets nothing
pub begins_up : (c : Call) (w : ForWhat) → begins c ≡ Some w → (up : Bool) → up_after up c ≡ up
begins_up (call.EventFlag (KindService e Set)) w h up = absurd (none-some w h)
begins_up (call.EventFlag (KindService e Reset)) w h up = absurd (none-some w h)
begins_up _ w h up = refl

-- a process that waits for an event flag waits while it is down
abbrev pub waited_event : Waited event_flag_kind
waited_event = record {
  V = Bool;
  to = call.EventFlag;
  creation = created_event_flag;
  nothing = no_event_flag;
  queue = queues.EventFlag;
  value = λ config calls. fold up_after false calls;
  Holds = λ config calls up. fold up_after false calls ≡ up;
  Lacks = λ config up w. up ≡ false;
  object = λ config created up. record { created = created; up = up };
  reads = λ config calls up is. is;
  after = λ history e config. refl;
  made = λ config created up. refl;
  created = λ call. refl;
  named = λ call. then_some queues.EventFlag (object_of call);
  differs = other;
  unlike = λ e m. refl;
  apart = λ e. refl;
  new = λ e config calls up is. folds_one up_after false calls up (call.EventFlag (Create (Known e))) is;
  status = λ roster x e. refl;
}

abbrev pub KeepsEventFlag : Roster → List Entry → ℕ → EventFlagConfig → Type 0
KeepsEventFlag = KeepsWaited waited_event

pub event_served : OwnServed waited_event
event_served here Set =
    guard waited_event here Set (not (created_before waited_event here)) _ _ refl (λ _. served_all waited_event here Set None true
    (folds_on up_after false (calls_before waited_event here) (is_up here.i here.history) (call.EventFlag (KindService here.i Set)) refl begins_up _))
event_served here Reset =
    guard waited_event here Reset (not (created_before waited_event here)) _ _ refl (λ _.
    served_alone waited_event here Reset here.roster (Code NoError) false refl (serves_same here.roster here.caller _ _)
    (folds_one up_after false (calls_before waited_event here) (is_up here.i here.history) (call.EventFlag (KindService here.i Reset)) refl) (λ p w waits is. refl))
event_served here (Wait timeout) =
    let up = is_up here.i here.history in
    let Serves = Served waited_event here (Wait timeout) in
    guard waited_event here (Wait timeout) (not (created_before waited_event here)) _ _ refl (λ _.
    guard waited_event here (Wait timeout) (is_waiting_owner here.roster here.caller timeout) _ _ refl (λ _.
    by_caller here.roster (object_before waited_event here) Serves (served_refused waited_event here (Wait timeout)) here.caller _
    (λ p by. cond_both {A = Outcome EventFlagObject} up _ _ Serves
    (λ _. served_alone waited_event here (Wait timeout) here.roster (Code NoError) up refl (serves_same here.roster here.caller _ _)
    (folds_one up_after false (calls_before waited_event here) (is_up here.i here.history) (call.EventFlag (KindService here.i (Wait timeout))) refl) here.keeps.held)
    (λ down. served_waiting waited_event here p by (rw by at here.scene.ready) (Wait timeout) (EventFlag here.i) refl refl (λ m is. cc) down timeout))))

-- event flags are objects of a kind
abbrev pub event_flag_laws : LawsOf event_flag_kind
event_flag_laws = waited_laws waited_event event_served
