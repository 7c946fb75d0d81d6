-- The run comes behind the number of its events.
use Rattle.std.proofs.Common.{◌≡◌, rules}
use Rattle.std.proofs.KnownBytes.{Appends-trans}
use Rattle.std.proofs.lemmas.Result.{on_err_weaker, on_ok_weaker}
use Rattle.apex_history.proofs.Outcomes.{OnErr-always}
use Rattle.apex_history.proofs.Passing.{beginning_behind, beginning_longer}
use Rattle.apex_answers.specs.Texts.{found_head}
use Rattle.apex_printouts.proofs.answers.write_found.Goals as goal

pub returns-in_err-write_all-clause-err : goal.returns-in_err-write_all-clause-err
returns-in_err-write_all-clause-err g c =
    let text : c.as_bytes.result.now ≡ found_head c.args.events.now = search rules in
    OnErr-always c.from_residual.result (beginning_longer _ _ _ _ (rw text at c.in_err-write_all.ensures.beginning))

pub returns-clause-ok : goal.returns-clause-ok
returns-clause-ok g c =
    let text : c.as_bytes.result.now ≡ found_head c.args.events.now = search rules in
    on_ok_weaker c.write_run.result (Appends-trans _ _ _ _ _ (rw text at c.in_ok-write_all.ensures.bytes)) c.write_run.ensures.ok

pub returns-clause-err : goal.returns-clause-err
returns-clause-err g c =
    let text : c.as_bytes.result.now ≡ found_head c.args.events.now = search rules in
    on_err_weaker c.write_run.result (beginning_behind _ _ _ _ _ (rw text at c.in_ok-write_all.ensures.bytes)) c.write_run.ensures.err
