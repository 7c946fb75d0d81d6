use Rattle.std.proofs.Common.{◌∙◌, ap, codes}
use Rattle.std.proofs.lemmas.Result.{IfOk-weaker}
use Rattle.clap.specs.Words.{App, with_subcommand}
use Rattle.apex_tasks.specs.Words.{json_view_command, view_command}
use Rattle.apex_tasks.proofs.words.view_commands.Goals as goal

pub returns : goal.returns
returns c =
    let lines_is = c.in_ok-with_lines.ensures (json_view_command (codes "lines")) c.json_view_command.ensures.app ∙ ap (λ (a : App). with_subcommand a (json_view_command (codes "lines")).top) c.in_ok-pictures.ensures in
    let status_is = c.in_ok-with_status.ensures (json_view_command (codes "status")) c.json_view_command-2.ensures.app ∙ ap (λ (a : App). with_subcommand a (json_view_command (codes "status")).top) lines_is in
    let report_is = c.in_ok-with_report.ensures (json_view_command (codes "report")) c.json_view_command-3.ensures.app ∙ ap (λ (a : App). with_subcommand a (json_view_command (codes "report")).top) status_is in
    IfOk-weaker c.with_command-4.result _ _ (λ r h. h ∙ ap (λ (a : App). with_subcommand a (view_command (codes "schedule")).top) report_is)
    (c.with_command-4.ensures (view_command (codes "schedule")) c.view_command.ensures.app)
