-- The run comes behind the first line, and the last lines behind the run.
use Rattle.std.proofs.Common.{◌≡◌, rules}
use Rattle.std.proofs.KnownBytes.{Appends-trans}
use Rattle.std.proofs.lemmas.Result.{on_err_weaker, on_ok_weaker}
use Rattle.apex_history.proofs.Outcomes.{OnErr-always}
use Rattle.apex_history.proofs.Passing.{beginning_behind, beginning_longer}
use Rattle.apex_answers.specs.Worst.{head_text, tail_text}
use Rattle.apex_printouts.proofs.worst.print_worst.Goals as goal

pub returns-in_err-write_all-clause-err : goal.returns-in_err-write_all-clause-err
returns-in_err-write_all-clause-err g c =
    let head : c.as_bytes.result.now ≡ head_text c.args.answer.now.worst = search rules in
    OnErr-always c.from_residual.result
    (beginning_longer _ _ _ _ (beginning_longer _ _ _ _ (rw head at c.in_err-write_all.ensures.beginning)))

pub returns-in_err-print_run-clause-err : goal.returns-in_err-print_run-clause-err
returns-in_err-print_run-clause-err g c =
    let head : c.as_bytes.result.now ≡ head_text c.args.answer.now.worst = search rules in
    OnErr-always c.from_residual-in_err-print_run.result
    (beginning_longer _ _ _ _ (beginning_behind _ _ _ _ _ (rw head at c.in_ok-write_all.ensures.bytes) c.in_err-print_run.ensures.err))

pub returns-clause-ok : goal.returns-clause-ok
returns-clause-ok g c =
    let head : c.as_bytes.result.now ≡ head_text c.args.answer.now.worst = search rules in
    let tail : c.as_bytes-2.result.now ≡ tail_text c.args.room c.args.answer.now.worst = search rules in
    on_ok_weaker c.write_all-2.result
    (λ h. Appends-trans _ _ _ _ _ (Appends-trans _ _ _ _ _ (rw head at c.in_ok-write_all.ensures.bytes) c.in_ok-print_run.ensures.ok) (rw tail at h))
    c.write_all-2.ensures.bytes

pub returns-clause-err : goal.returns-clause-err
returns-clause-err g c =
    let head : c.as_bytes.result.now ≡ head_text c.args.answer.now.worst = search rules in
    let tail : c.as_bytes-2.result.now ≡ tail_text c.args.room c.args.answer.now.worst = search rules in
    on_err_weaker c.write_all-2.result
    (λ h. beginning_behind _ _ _ _ _ (Appends-trans _ _ _ _ _ (rw head at c.in_ok-write_all.ensures.bytes) c.in_ok-print_run.ensures.ok) (rw tail at h))
    c.write_all-2.ensures.beginning
