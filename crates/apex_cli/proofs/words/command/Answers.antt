use Rattle.std.proofs.Common.{◌∙◌, ap, codes}
use Rattle.std.proofs.lemmas.Result.{IfOk-weaker}
use Rattle.clap.specs.Words.{App, with_subcommand}
use Rattle.apex_cli.specs.Words.{check_command, report_command, run_command}
use Rattle.apex_cli.proofs.words.command.Goals as goal

pub returns : goal.returns
returns c =
    let replay_is = c.in_ok-with_replay.ensures (report_command (codes "replay")) c.report_command.ensures.app ∙ ap (λ (a : App). with_subcommand a (report_command (codes "replay")).top) c.bare_line.ensures in
    let status_is = c.in_ok-with_status.ensures (report_command (codes "status")) c.report_command-2.ensures.app ∙ ap (λ (a : App). with_subcommand a (report_command (codes "status")).top) replay_is in
    let check_is = c.in_ok-with_check.ensures check_command c.new.ensures.app ∙ ap (λ (a : App). with_subcommand a check_command.top) status_is in
    IfOk-weaker c.with_command-4.result _ _ (λ r h. h ∙ ap (λ (a : App). with_subcommand a run_command.top) check_is)
    (c.with_command-4.ensures run_command c.run_command.ensures.app)
