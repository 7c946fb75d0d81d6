-- Why the machine makes the entry that it makes: the caller, its step, and the guard or the rule
-- that decides the reply (this profile).
use Rattle.std.specs.Prelude.{◌≡◌, ℕ, ◌+◌, Option, None, Some, IfSome, nat_lt, if◌then◌else◌}
use Rattle.apex_types.specs.declared.calls.Call.TheVariants.{Caller as ToCaller, Work as ToWork}
use Rattle.apex_types.specs.declared.calls.CallerCall.TheVariants.{StopSelf}
use Rattle.apex_types.specs.declared.entries.Caller.TheVariants.{Process, Init, Nobody}
use Rattle.apex_types.specs.declared.entries.Event.TheVariants.{Turn, Tick}
use Rattle.apex_types.specs.declared.modes.Mode.TheVariants as mode
use Rattle.apex_machine.specs.Deeds.{Deed, Objects, step_of}
use Rattle.apex_machine.specs.Situations.{Situation, due_call}
use Rattle.apex_machine.specs.Ticks.{tick_goal}
use Rattle.apex_machine.specs.processes.Roster.{Roster, record_at}
use Rattle.apex_machine.specs.processes.Running.{chosen}
use Rattle.apex_machine.specs.table.Table.{Table}
use Rattle.apex_reasons.specs.Terms.{Call, Caller, Event, Mode, OpenWork}
use Rattle.apex_reasons.specs.Causes.{CauseHolds, cause_of}
use Rattle.apex_reasons.specs.Decisions.{Explains, rule_of}
use Rattle.apex_reasons.specs.Effects.{effect_of_call}
use Rattle.apex_reasons.specs.Guards.{first_holding}
use Rattle.apex_reasons.specs.Rows.{row_of_call}
use Rattle.apex_reasons.specs.declared.reasons.Reason.{Reason}
use Rattle.apex_reasons.specs.declared.rules.Rule.{Rule}
use Rattle.apex_reasons.specs.declared.rules.Rule.TheVariants.{WorkWasKept, WorkWasBroken, ModeIsIdle, NoInitStepIsDue, NobodyIsEligible, TickStops, TickGoesWhole}

-- the rule of a call: the first guard of its row that holds, or else what it does
abbrev pub call_rule : Roster → Objects → Caller → Call → Rule
call_rule roster objects caller call =
    rule_of (first_holding (row_of_call roster objects caller call))
    (effect_of_call roster objects caller call)

-- the caller asks for the call, by the step at this place of its list
abbrev pub asked : Roster → Objects → Caller → ℕ → Call → Reason
asked roster objects caller step call = record {
  caller = caller;
  call = Some call;
  step = Some step;
  rule = call_rule roster objects caller call;
}

-- the step of a script; the end of the script is STOP_SELF
abbrev pub script_call : Option Call → Call
script_call None = ToCaller StopSelf
script_call (Some call) = call

-- nobody asks for anything
abbrev pub without_caller : Rule → Reason
without_caller rule = record { caller = Nobody; call = None; step = None; rule = rule }

-- the reason of an idle turn
abbrev pub idle_rule : Mode → Rule
idle_rule mode.Idle = ModeIsIdle
idle_rule mode.ColdStart = NoInitStepIsDue
idle_rule mode.Normal = NobodyIsEligible

-- the chosen process asks for its step; without one the turn is idle
abbrev pub chosen_reason : Table → Roster → Objects → Option ℕ → Reason
chosen_reason table roster objects None = without_caller (idle_rule roster.mode)
chosen_reason table roster objects (Some p) =
    asked roster objects (Process p) (record_at roster p).step
    (script_call (step_of table roster p))

-- an init step that is due comes before all scripts
abbrev pub step_reason : Table → Situation → ℕ → Option Call → Reason
step_reason table s core (Some call) = asked s.roster s.objects Init s.made call
step_reason table s core None = chosen_reason table s.roster s.objects (chosen s.roster core)

-- work that the core has begun ends
abbrev pub ended_reason : OpenWork → Reason
ended_reason o = record {
  caller = Process o.work.process;
  call = Some (ToWork o.work.amount);
  step = None;
  rule = if o.unbroken then WorkWasKept else WorkWasBroken;
}

-- the reason of a turn of the core, by the work that it has begun and the init step that is due
abbrev pub turn_reason : Table → Situation → ℕ → Option OpenWork → Option Call → Reason
turn_reason table s core (Some o) due = ended_reason o
turn_reason table s core None due = step_reason table s core due

-- a tick of n stops early if a wait ends or a deadline passes before it is over
abbrev pub tick_rule : Roster → ℕ → Rule
tick_rule roster n =
    if nat_lt (tick_goal roster n) (roster.now + n) then TickStops else TickGoesWhole

-- the reason of an event in a situation
abbrev pub reason_of : Table → Situation → Event → Reason
reason_of table s (Turn core) =
    turn_reason table s core (s.works core) (due_call table s core)
reason_of table s (Tick n) = without_caller (tick_rule s.roster n)

-- the place of the next step of a process in its script, and of the init list
abbrev pub next_step : Situation → Caller → Option ℕ
next_step s (Process p) = Some (record_at s.roster p).step
next_step s Init = Some s.made
next_step s Nobody = None

-- the place of the step that the caller carries out in a turn; the end of work is no step
abbrev pub step_in_turn : Situation → Option OpenWork → Caller → Option ℕ
step_in_turn s (Some begun) caller = None
step_in_turn s None caller = next_step s caller

-- the same at an event
abbrev pub step_at : Situation → Event → Caller → Option ℕ
step_at s (Turn core) caller = step_in_turn s (s.works core) caller
step_at s (Tick n) caller = None

-- the reason is that of the event's deed in the situation: its caller, its call, the place of the
-- caller's step, a rule for its reply, and a cause that holds, if the rule names one
pub record IsReasonOf (s : Situation) (event : Event) (reason : Reason) (deed : Deed) : Type 0 where
  pub caller : reason.caller ≡ deed.caller
  pub call : reason.call ≡ deed.call
  pub step : reason.step ≡ step_at s event reason.caller
  pub rule : Explains reason.rule deed.outcome.reply
  pub cause : IfSome (cause_of reason.rule)
      (CauseHolds s.roster s.objects reason.caller reason.call)
