-- A reason is that of the machine's deed.
use Rattle.std.proofs.Common.{◌≡◌, ◌+◌, ◌-◌, ◌≤◌, ◌<◌, ◌==◌, ℕ, Bool, true, false, cond, List, length, Option, None, Some, ap, inl, inr, refl, subst, arith}
use Rattle.std.specs.Prelude.{IfSome, nat_lt, not}
use Rattle.std.proofs.lemmas.Bool.{cases_Bool, cond_both, eq-eqb, eqb-true, ltb-false, ltb-true}
use Rattle.std.proofs.Math.Nat.{min-le_left}
use Rattle.apex_types.proofs.Places.{get_or-map_places}
use Rattle.apex_types.specs.Limits.{latest}
use Rattle.apex_types.specs.declared.calls.Call.TheVariants.{Caller as ToCaller}
use Rattle.apex_types.specs.declared.calls.CallerCall.TheVariants.{StopSelf}
use Rattle.apex_types.specs.declared.entries.Caller.TheVariants.{Process, Init}
use Rattle.apex_types.specs.declared.entries.Event.TheVariants.{Turn, Tick}
use Rattle.apex_types.specs.declared.entries.Reply.TheVariants.{Idle, Advanced}
use Rattle.apex_types.specs.declared.modes.Mode.TheVariants as mode
use Rattle.apex_machine.specs.Deeds.{Deed, Objects, chosen_deed, ended, move_on, moved_for, next_place, script_deed, service, step_deed, step_of, turn_deed}
use Rattle.apex_machine.specs.Events.{IsWithin}
use Rattle.apex_machine.specs.Machine.{Machine, situation_of}
use Rattle.apex_machine.specs.Situations.{Situation, deed, due_call}
use Rattle.apex_machine.specs.Ticks.{not_beyond, tick_goal}
use Rattle.apex_machine.specs.processes.Dues.{next_instant}
use Rattle.apex_machine.specs.processes.Roster.{Roster, record_at}
use Rattle.apex_machine.specs.processes.Running.{chosen, is_before, runs_on}
use Rattle.apex_machine.specs.services.BlackboardServices.{blackboard_kind, BlackboardObject}
use Rattle.apex_machine.specs.services.BufferServices.{buffer_kind, BufferObject}
use Rattle.apex_machine.specs.services.Calls.{is_work}
use Rattle.apex_machine.specs.services.SemaphoreServices.{semaphore_kind, SemaphoreObject}
use Rattle.apex_machine.specs.table.Table.{Table, no_semaphore, no_buffer, no_blackboard, process_config}
use Rattle.apex_machine.proofs.Choice.{place_within}
use Rattle.apex_laws.proofs.Known.{objects_are}
use Rattle.apex_reasons.specs.Terms.{Call, Event, Mode, OpenWork}
use Rattle.apex_reasons.specs.Causes.{CauseHolds, cause_of}
use Rattle.apex_reasons.specs.Decisions.{Explains}
use Rattle.apex_reasons.specs.Effects.{effect_of_call}
use Rattle.apex_reasons.specs.Guards.{Tested, first_holding}
use Rattle.apex_reasons.specs.Premises.{AreOfTable}
use Rattle.apex_reasons.specs.Reasons.{IsReasonOf, call_rule, chosen_reason, idle_rule, next_step, reason_of, script_call, step_at, step_in_turn, step_reason, turn_reason}
use Rattle.apex_reasons.specs.Rows.{row_of_call}
use Rattle.apex_reasons.specs.declared.reasons.Reason.{Reason}
use Rattle.apex_reasons.specs.declared.rules.Rule.{Rule}
use Rattle.apex_reasons.specs.declared.rules.WaitCause.{WaitCause}
use Rattle.apex_reasons.specs.declared.rules.Rule.TheVariants.{TickStops, TickGoesWhole, WorkWasKept, WorkWasBroken}
use Rattle.apex_reasons.proofs.Caused.{caused}
use Rattle.apex_reasons.proofs.Decided.{Decided}
use Rattle.apex_reasons.proofs.Moved.{same_effect, same_row}
use Rattle.apex_reasons.proofs.Services.{decided}

-- the reason is that of the deed, as far as no situation is needed to say so
record Fits (reason : Reason) (deed : Deed) : Type 0 where
  caller : reason.caller ≡ deed.caller
  call : reason.call ≡ deed.call
  rule : Explains reason.rule deed.outcome.reply

idles : (m : Mode) → Explains (idle_rule m) Idle
idles mode.Idle = refl
idles mode.ColdStart = refl
idles mode.Normal = refl

-- a cause holds for the caller and the call of the reason
abbrev holds_for : Situation → Reason → WaitCause → Type 0
holds_for s reason = CauseHolds s.roster s.objects reason.caller reason.call

-- the cause that the reason names, if it names one, holds in the situation
abbrev HasCause : Situation → Reason → Type 0
HasCause s reason = IfSome (cause_of reason.rule) (holds_for s reason)

in_either : (fact : WaitCause → Type 0) (test : Bool) (first second : Rule) → IfSome (cause_of first) fact → IfSome (cause_of second) fact
    → IfSome (cause_of (cond test first second)) fact
in_either fact true first second here there = here
in_either fact false first second here there = there

in_idle : (fact : WaitCause → Type 0) (m : Mode) → IfSome (cause_of (idle_rule m)) fact
in_idle fact mode.Idle = tt
in_idle fact mode.ColdStart = tt
in_idle fact mode.Normal = tt

module _ (table : Table) where
  -- the step of a process is served once it has moved on, and its row and its effect are those of
  -- before
  serves : (roster : Roster) (objects : Objects) (p : ℕ) (call : Call) → p < length roster.records
      → Decided (first_holding (row_of_call roster objects (Process p) call)) (effect_of_call roster objects (Process p) call)
      (service (moved_for table roster p call) objects (Process p) call)
  serves roster objects p call known =
      let next = next_place (process_config table p) (record_at roster p).step in
      let row = row_of_call roster objects (Process p) call in
      let effect = effect_of_call roster objects (Process p) call in
      cond_both {A = Roster} (is_work call) roster (move_on table roster p)
      (λ (left : Roster). Decided (first_holding row) effect (service left objects (Process p) call))
      (λ _. decided roster objects (Process p) call)
      (λ _. subst
      (λ (tests : List Tested). Decided (first_holding tests) effect (service (move_on table roster p) objects (Process p) call))
      (same_row roster p next known objects (Process p) call)
      (subst
      (λ (rule : Rule). Decided (first_holding (row_of_call (move_on table roster p) objects (Process p) call)) rule
      (service (move_on table roster p) objects (Process p) call))
      (same_effect roster p next known objects (Process p) call)
      (decided (move_on table roster p) objects (Process p) call)))

  scripted : (roster : Roster) (objects : Objects) (p : ℕ) → p < length roster.records → (step : Option Call)
      → Explains (call_rule roster objects (Process p) (script_call step)) (script_deed table roster objects p step).outcome.reply
  scripted roster objects p known None = decided roster objects (Process p) (ToCaller StopSelf)
  scripted roster objects p known (Some call) = serves roster objects p call known

  by_script : (roster : Roster) (objects : Objects) (p : ℕ) → p < length roster.records → (step : Option Call)
      → step_of table roster p ≡ step
      → Fits (chosen_reason table roster objects (Some p)) (chosen_deed table roster objects (Some p))
  by_script roster objects p known None e = rw e (record { caller = refl; call = refl; rule = scripted roster objects p known None })
  by_script roster objects p known (Some call) e = rw e (record { caller = refl; call = refl; rule = scripted roster objects p known (Some call) })

  by_chosen : (roster : Roster) (objects : Objects) (found : Option ℕ) → ((p : ℕ) → found ≡ Some p → p < length roster.records)
      → Fits (chosen_reason table roster objects found) (chosen_deed table roster objects found)
  by_chosen roster objects None within = record { caller = refl; call = refl; rule = idles roster.mode }
  by_chosen roster objects (Some p) within = by_script roster objects p (within p refl) (step_of table roster p) refl

  chosen_within : (roster : Roster) (core p : ℕ) → chosen roster core ≡ Some p → p < length roster.records
  chosen_within roster core p e = place_within (runs_on roster.mode core) is_before roster.records p e

  by_step : (s : Situation) (core : ℕ) (due : Option Call)
      → Fits (step_reason table s core due) (step_deed table s.roster s.objects core due)
  by_step s core None = by_chosen s.roster s.objects (chosen s.roster core) (chosen_within s.roster core)
  by_step s core (Some call) = record {
    caller = refl;
    call = refl;
    rule = decided s.roster s.objects Init call;
  }

  ends : (roster : Roster) (objects : Objects) (p : ℕ) (unbroken : Bool)
      → Explains (cond unbroken WorkWasKept WorkWasBroken) (ended table roster objects p unbroken).reply
  ends roster objects p true = refl
  ends roster objects p false = refl

  by_turn : (s : Situation) (core : ℕ) (begun : Option OpenWork) (due : Option Call)
      → Fits (turn_reason table s core begun due) (turn_deed table s.roster s.objects core begun due)
  by_turn s core None due = by_step s core due
  by_turn s core (Some o) due = record { caller = refl; call = refl; rule = ends s.roster s.objects o.work.process o.unbroken }

  goal_within : (now : ℕ) (next : Option ℕ) → not_beyond now next ≤ now
  goal_within now None = omega arith
  goal_within now (Some t) = min-le_left now t

  goes : (goal now n : ℕ) → goal ≤ now + n → 1 ≤ n
      → Explains (cond (nat_lt goal (now + n)) TickStops TickGoesWhole) (Advanced n (goal - now))
  goes goal now n near some =
      cond_both {A = Rule} (nat_lt goal (now + n)) TickStops TickGoesWhole (λ rule. Explains rule (Advanced n (goal - now)))
      (λ below. stops (ltb-true goal (now + n) below)) (λ past. eq-eqb (goal - now) n (omega (arith, near, ltb-false goal (now + n) past))) where
        stops : goal < now + n → not ((goal - now) == n) ≡ true
        stops below = elim (cases_Bool ((goal - now) == n)) [
          | inl same ↦ absurd (omega (arith, some, below, eqb-true (goal - now) n same))
          | inr differs ↦ ap not differs
        ]

  fits : (s : Situation) (event : Event) → IsWithin table.cores event → Fits (reason_of table s event) (deed table s event)
  fits s (Turn core) within = by_turn s core (s.works core) (due_call table s core)
  fits s (Tick n) within = record {
    caller = refl;
    call = refl;
    rule = goes (tick_goal s.roster n) s.roster.now n (goal_within (s.roster.now + n) (next_instant s.roster)) within.0;
  }

  -- the step is the next one of the caller's list
  step_by_chosen : (s : Situation) (found : Option ℕ)
      → (chosen_reason table s.roster s.objects found).step ≡ next_step s (chosen_reason table s.roster s.objects found).caller
  step_by_chosen s None = refl
  step_by_chosen s (Some p) = refl

  step_by_due : (s : Situation) (core : ℕ) (due : Option Call) → (step_reason table s core due).step ≡ next_step s (step_reason table s core due).caller
  step_by_due s core None = step_by_chosen s (chosen s.roster core)
  step_by_due s core (Some call) = refl

  step_by_turn : (s : Situation) (core : ℕ) (begun : Option OpenWork) (due : Option Call)
      → (turn_reason table s core begun due).step ≡ step_in_turn s begun (turn_reason table s core begun due).caller
  step_by_turn s core None due = step_by_due s core due
  step_by_turn s core (Some o) due = refl

  steps : (s : Situation) (event : Event) → (reason_of table s event).step ≡ step_at s event (reason_of table s event).caller
  steps s (Turn core) = step_by_turn s core (s.works core) (due_call table s core)
  steps s (Tick n) = refl

  -- the cause that the rule names holds
  cause_by_chosen : (s : Situation) (found : Option ℕ) → HasCause s (chosen_reason table s.roster s.objects found)
  cause_by_chosen s None = in_idle (holds_for s (chosen_reason table s.roster s.objects None)) s.roster.mode
  cause_by_chosen s (Some p) = caused s.roster s.objects (Process p) (script_call (step_of table s.roster p))

  cause_by_due : (s : Situation) (core : ℕ) (due : Option Call) → HasCause s (step_reason table s core due)
  cause_by_due s core None = cause_by_chosen s (chosen s.roster core)
  cause_by_due s core (Some call) = caused s.roster s.objects Init call

  cause_by_turn : (s : Situation) (core : ℕ) (begun : Option OpenWork) (due : Option Call) → HasCause s (turn_reason table s core begun due)
  cause_by_turn s core None due = cause_by_due s core due
  cause_by_turn s core (Some o) due =
      in_either (holds_for s (turn_reason table s core (Some o) due)) o.unbroken WorkWasKept WorkWasBroken tt tt

  causes : (s : Situation) (event : Event) → HasCause s (reason_of table s event)
  causes s (Turn core) = cause_by_turn s core (s.works core) (due_call table s core)
  causes s (Tick n) =
      in_either (holds_for s (reason_of table s (Tick n))) (nat_lt (tick_goal s.roster n) (s.roster.now + n)) TickStops TickGoesWhole tt tt

  -- the reason of an event is that of its deed
  pub reason_is : (s : Situation) (event : Event) → IsWithin table.cores event → (reason : Reason)
      → reason ≡ reason_of table s event → IsReasonOf s event reason (deed table s event)
  reason_is s event within reason e =
      let fit = fits s event within in
      rw e (record {
        caller = fit.caller;
        call = fit.call;
        step = steps s event;
        rule = fit.rule;
        cause = causes s event;
      })

  -- the processes and the objects of a machine are those of its table
  pub are_of_table : (machine : Machine) (s : Situation) → s ≡ situation_of table machine
      → length machine.roster.records ≡ length table.processes → machine.roster.now ≤ latest
      → AreOfTable table s.roster s.objects
  are_of_table machine s e many time =
      rw e (record {
        records = many;
        all = objects_are table machine.history;
        maxima = λ i within. ap (λ (x : SemaphoreObject). x.maximum)
            (get_or-map_places (semaphore_kind.after machine.history) 0 table.semaphores i no_semaphore semaphore_kind.absent within);
        capacities = λ i within. ap (λ (x : BufferObject). x.capacity)
            (get_or-map_places (buffer_kind.after machine.history) 0 table.buffers i no_buffer buffer_kind.absent within);
        lengths = λ i within. ap (λ (x : BufferObject). x.longest)
            (get_or-map_places (buffer_kind.after machine.history) 0 table.buffers i no_buffer buffer_kind.absent within);
        widths = λ i within. ap (λ (x : BlackboardObject). x.longest)
            (get_or-map_places (blackboard_kind.after machine.history) 0 table.blackboards i no_blackboard blackboard_kind.absent within);
        time = time;
      })
