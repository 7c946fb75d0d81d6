use Rattle.std.proofs.Common.{◌∙◌, ap}
use Rattle.std.proofs.lemmas.Result.{IfOk-weaker}
use Rattle.clap.specs.Words.{App, with_subcommand}
use Rattle.apex_tasks.specs.Words.{svg, trace_command}
use Rattle.apex_tasks.proofs.words.picture_commands.Goals as goal

pub returns : goal.returns
returns c =
    let svg_is = c.in_ok-with_svg.ensures svg c.svg_command.ensures.app ∙ ap (λ (a : App). with_subcommand a svg.top) c.bare_line.ensures in
    IfOk-weaker c.with_command-2.result _ _ (λ r h. h ∙ ap (λ (a : App). with_subcommand a trace_command.top) svg_is)
    (c.with_command-2.ensures trace_command c.trace_command.ensures.app)
