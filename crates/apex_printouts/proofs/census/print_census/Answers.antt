-- What is known of the other facts comes behind the findings.
use Rattle.std.proofs.Common.{◌≡◌, rules}
use Rattle.std.proofs.KnownBytes.{Appends-trans}
use Rattle.std.proofs.lemmas.Result.{on_err_weaker, on_ok_weaker}
use Rattle.apex_history.proofs.Outcomes.{OnErr-always}
use Rattle.apex_history.proofs.Passing.{beginning_behind, beginning_longer}
use Rattle.apex_printouts.specs.Censuses.{end_text}
use Rattle.apex_printouts.proofs.census.print_census.Goals as goal

pub returns-in_err-print_findings-clause-err : goal.returns-in_err-print_findings-clause-err
returns-in_err-print_findings-clause-err g c =
    OnErr-always c.from_residual.result
    (beginning_longer _ _ _ _ (rw c.as_slice.ensures.value at c.in_err-print_findings.ensures.err))

pub returns-clause-ok : goal.returns-clause-ok
returns-clause-ok g c =
    let text : c.as_bytes.result.now ≡ end_text c.args.room c.args.census.now.end = search rules in
    on_ok_weaker c.write_all.result
    (λ h. Appends-trans _ _ _ _ _ (rw c.as_slice.ensures.value at c.in_ok-print_findings.ensures.ok) (rw text at h)) c.write_all.ensures.bytes

pub returns-clause-err : goal.returns-clause-err
returns-clause-err g c =
    let text : c.as_bytes.result.now ≡ end_text c.args.room c.args.census.now.end = search rules in
    on_err_weaker c.write_all.result
    (λ h. beginning_behind _ _ _ _ _ (rw c.as_slice.ensures.value at c.in_ok-print_findings.ensures.ok) (rw text at h)) c.write_all.ensures.beginning
