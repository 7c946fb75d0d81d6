-- The replies for which a rule stands (this profile).
use Rattle.std.specs.Prelude.{◌≡◌, Bool, true, false, not, ◌==◌, Option, None, Some}
use Rattle.apex_types.specs.declared.entries.Reply.TheVariants.{Code, Value, Status, Message, Blocked, Gone, Idle, Begun, Done, Lost, Advanced}
use Rattle.apex_types.specs.declared.entries.ReturnCode.TheVariants.{NotAvailable}
use Rattle.apex_machine.specs.services.Satisfied.{is_no_error}
use Rattle.apex_reasons.specs.Terms.{Reply}
use Rattle.apex_reasons.specs.Guards.{code_of}
use Rattle.apex_reasons.specs.declared.guards.Guard.{Guard}
use Rattle.apex_reasons.specs.declared.rules.Rule.{Rule}
use Rattle.apex_reasons.specs.declared.rules.Rule.TheVariants.{Refused, Served, Waits, WouldWait, WorkWasKept, WorkWasBroken, ModeIsIdle, NoInitStepIsDue, NobodyIsEligible, TickStops, TickGoesWhole}

-- the reply of a service that was carried out, and whose caller does not wait: no other code than
-- NO_ERROR, and not BLOCKED
abbrev pub is_served : Reply → Bool
is_served (Code code) = is_no_error code
is_served (Value value) = true
is_served (Status first second) = true
is_served (Message message) = true
is_served Blocked = false
is_served Gone = true
is_served Idle = false
is_served Begun = true
is_served Done = false
is_served Lost = false
is_served (Advanced asked went) = false

-- the tick went as far as it was asked to
abbrev pub went_whole : Reply → Bool
went_whole (Advanced asked went) = went == asked
went_whole _ = false

-- the tick did not go as far as it was asked to
abbrev pub stopped_short : Reply → Bool
stopped_short (Advanced asked went) = not (went == asked)
stopped_short _ = false

-- the reply is one for which the rule stands
abbrev pub Explains : Rule → Reply → Type 0
Explains (Refused guard) reply = reply ≡ Code (code_of guard)
Explains Served reply = is_served reply ≡ true
Explains (Waits cause) reply = reply ≡ Blocked
Explains (WouldWait cause) reply = reply ≡ Code NotAvailable
Explains WorkWasKept reply = reply ≡ Done
Explains WorkWasBroken reply = reply ≡ Lost
Explains ModeIsIdle reply = reply ≡ Idle
Explains NoInitStepIsDue reply = reply ≡ Idle
Explains NobodyIsEligible reply = reply ≡ Idle
Explains TickStops reply = stopped_short reply ≡ true
Explains TickGoesWhole reply = went_whole reply ≡ true

-- the rule of a row: its first guard that holds, else what its service does
abbrev pub rule_of : Option Guard → Rule → Rule
rule_of None effect = effect
rule_of (Some guard) effect = Refused guard
