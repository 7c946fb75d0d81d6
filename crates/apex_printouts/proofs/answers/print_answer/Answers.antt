-- A text that is written at once.
use Rattle.std.proofs.Common.{◌≡◌, ◌++◌, rules}
use Rattle.std.proofs.lemmas.Result.{on_err_weaker}
use Rattle.apex_answers.specs.Texts.{never_text, states_text, within_text}
use Rattle.apex_printouts.proofs.answers.print_answer.Goals as goal

pub returns-in-Never-clause-err : goal.returns-in-Never-clause-err
returns-in-Never-clause-err g c =
    let text : c.as_bytes.result.now ≡ never_text c.in-Never.states = search rules in
    on_err_weaker c.write_all.result (λ h. rw c.in-Never.is (rw text at h)) c.write_all.ensures.beginning

pub returns-in-NoneWithin-clause-err : goal.returns-in-NoneWithin-clause-err
returns-in-NoneWithin-clause-err g c =
    let text : c.as_bytes-in-NoneWithin.result.now ≡ within_text c.in-NoneWithin.depth ++ states_text c.args.room = search rules in
    on_err_weaker c.write_all-in-NoneWithin.result (λ h. rw c.in-NoneWithin.is (rw text at h)) c.write_all-in-NoneWithin.ensures.beginning

pub returns-in-Beyond-clause-err : goal.returns-in-Beyond-clause-err
returns-in-Beyond-clause-err g c =
    let text : c.as_bytes-in-Beyond.result.now ≡ within_text c.in-Beyond.limit = search rules in
    on_err_weaker c.write_all-in-Beyond.result (λ h. rw c.in-Beyond.is (rw text at h)) c.write_all-in-Beyond.ensures.beginning
