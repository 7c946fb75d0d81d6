use Rattle.std.proofs.Common.{◌∙◌, ap, codes}
use Rattle.std.proofs.lemmas.Result.{IfOk-weaker}
use Rattle.clap.specs.Words.{App, with_subcommand}
use Rattle.apex_tasks.specs.Words.{check_command, step_command, view_command, why_command}
use Rattle.apex_tasks.proofs.words.command.Goals as goal

pub returns : goal.returns
returns c =
    let step_is = c.in_ok-with_step.ensures step_command c.step_command.ensures.app ∙ ap (λ (a : App). with_subcommand a step_command.top) c.in_ok-searches.ensures in
    let check_is = c.in_ok-with_check.ensures check_command c.check_command.ensures.app ∙ ap (λ (a : App). with_subcommand a check_command.top) step_is in
    let why_is = c.in_ok-with_why.ensures why_command c.why_command.ensures.app ∙ ap (λ (a : App). with_subcommand a why_command.top) check_is in
    IfOk-weaker c.with_command-4.result _ _ (λ r h. h ∙ ap (λ (a : App). with_subcommand a (view_command (codes "vcd")).top) why_is)
    (c.with_command-4.ensures (view_command (codes "vcd")) c.view_command.ensures.app)
