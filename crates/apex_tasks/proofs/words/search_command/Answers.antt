use Rattle.std.proofs.Common.{◌∙◌, ap, ◌∷◌, [], codes}
use Rattle.std.proofs.lemmas.Result.{IfOk-weaker}
use Rattle.clap.specs.Words.{App}
use Rattle.apex_console.specs.Words.{flag_rule, option_rule, with_rules}
use Rattle.apex_tasks.proofs.words.search_command.Goals as goal

pub returns-clause-app : goal.returns-clause-app
returns-clause-app c =
    IfOk-weaker c.with_arguments.result _ _ (λ r h. h ∙ ap (λ (a : App). with_rules a (option_rule (codes "for") ∷ option_rule (codes "worst") ∷ option_rule (codes "process") ∷ option_rule (codes "service") ∷ option_rule (codes "turns") ∷ option_rule (codes "early") ∷ option_rule (codes "states") ∷ option_rule (codes "jobs") ∷ [])) c.new.ensures.app)
    c.with_arguments.ensures.app
