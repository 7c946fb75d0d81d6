use Rattle.std.proofs.Common.{◌∙◌, ap}
use Rattle.std.proofs.lemmas.Result.{IfOk-weaker}
use Rattle.clap.specs.Words.{App, with_subcommand}
use Rattle.apex_tasks.specs.Words.{lint_command, search_command}
use Rattle.apex_tasks.proofs.words.search_commands.Goals as goal

pub returns : goal.returns
returns c =
    let search_is = c.in_ok-with_search.ensures search_command c.search_command.ensures.app ∙ ap (λ (a : App). with_subcommand a search_command.top) c.in_ok-views.ensures in
    IfOk-weaker c.with_command-2.result _ _ (λ r h. h ∙ ap (λ (a : App). with_subcommand a lint_command.top) search_is)
    (c.with_command-2.ensures lint_command c.lint_command.ensures.app)
