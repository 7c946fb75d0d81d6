use Rattle.std.proofs.Common.{◌∙◌, ap, ◌∷◌, [], codes}
use Rattle.std.proofs.lemmas.Result.{IfOk-weaker}
use Rattle.clap.specs.Words.{App}
use Rattle.apex_console.specs.Words.{required_rule, with_rules}
use Rattle.apex_cli.proofs.words.report_command.Goals as goal

pub returns-clause-app : goal.returns-clause-app
returns-clause-app c =
    IfOk-weaker c.with_arguments.result _ _ (λ r h. h ∙ ap (λ (a : App). with_rules a (required_rule (codes "schedule") ∷ [])) c.new.ensures.app)
    c.with_arguments.ensures.app
