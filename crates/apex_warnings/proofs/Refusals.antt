-- The guards that refuse the calls of some warnings.
use Rattle.std.proofs.Common.{◌≡◌, ℕ, Bool, true, false, cond, refl, ap, not, arith}
use Rattle.apex_warnings.specs.Acts.{is_taken}
use Rattle.apex_warnings.specs.Reasons.{RefusesAperiodicWaits, RefusesDisplays, RefusesPeriodicSuspensions, RefusesResumes, RefusesSends, RefusesSuspends, is_refusal}
use Rattle.apex_warnings.specs.Terms.{Message}
use Rattle.apex_warnings.proofs.Lists.{or_true}
use Rattle.apex_machine.specs.processes.Roster.{record_at}
use Rattle.apex_machine.specs.services.BlackboardServices.{BlackboardObject}
use Rattle.apex_machine.specs.services.BufferServices.{BufferObject}
use Rattle.apex_machine.specs.services.Callers.{is_by_process}
use Rattle.apex_machine.specs.services.ProcessServices.{ProcessObject, is_unsuspendable}
use Rattle.apex_machine.specs.services.Rows.{Outcome, refused}
use Rattle.apex_types.specs.Messages.{is_unfit}
use Rattle.apex_types.specs.declared.entries.ReturnCode.TheVariants.{InvalidParam, InvalidMode}

-- a message that is not taken is unfit
pub unfit : (longest : ℕ) (message : Message) → is_taken longest message ≡ false → is_unfit longest message ≡ true
unfit longest message h = grind arith

-- two guards with one answer, of which the second one holds
by_two : {A : Type 0} (a b : Bool) (x y : A) → b ≡ true → cond a x (cond b x y) ≡ x
by_two true b x y h = refl
by_two false b x y h = rw h refl

-- three guards whose answers all pass, of which the third one holds
by_three : {A : Type 0} (passes : A → Bool) (a b c : Bool) (x y z : A) → passes x ≡ true → passes y ≡ true
    → c ≡ true → passes (cond a x (cond b x (cond c y z))) ≡ true
by_three passes true b c x y z px py h = px
by_three passes false true c x y z px py h = px
by_three passes false false c x y z px py h = rw h py

pub sends : RefusesSends
sends roster buffer b caller message timeout h =
    ap (λ (o : Outcome BufferObject). o.reply)
    (by_two (not buffer.created) (is_unfit buffer.longest message) (refused roster buffer InvalidParam) _
    (unfit buffer.longest message h))

pub displays : RefusesDisplays
displays roster blackboard b message h =
    ap (λ (o : Outcome BlackboardObject). o.reply)
    (by_two (not blackboard.created) (is_unfit blackboard.longest message) (refused roster blackboard InvalidParam) _
    (unfit blackboard.longest message h))

pub aperiodic_waits : RefusesAperiodicWaits
aperiodic_waits roster objects p h = rw h refl

pub suspensions : RefusesPeriodicSuspensions
suspensions roster objects p timeout h = rw h refl

pub suspends : RefusesSuspends
suspends roster process p caller h =
    by_three (λ (o : Outcome ProcessObject). is_refusal o.reply) (is_by_process p caller) (not process.created)
    (is_unsuspendable (record_at roster p)) (refused roster process InvalidParam)
    (refused roster process InvalidMode) _ refl refl
    (rw h (or_true (not (record_at roster p).started)))

pub resumes : RefusesResumes
resumes roster process p caller h =
    by_three (λ (o : Outcome ProcessObject). is_refusal o.reply) (is_by_process p caller) (not process.created)
    (is_unsuspendable (record_at roster p)) (refused roster process InvalidParam)
    (refused roster process InvalidMode) _ refl refl
    (rw h (or_true (not (record_at roster p).started)))
