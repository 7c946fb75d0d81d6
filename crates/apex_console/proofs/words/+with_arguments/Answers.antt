use Rattle.std.proofs.Common.{◌∙◌, ◌-◌, ap, drop, length, map, take}
use Rattle.std.proofs.lemmas.Result.{IfOk-weaker}
use Rattle.clap.specs.Words.{App, app_of, with_rule}
use Rattle.apex_console.specs.Words.{rule_for, with_rules}
use Rattle.apex_console.proofs.CommandLemmas.{first_argument, no_arguments}
use Rattle.apex_console.proofs.words.+with_arguments.Goals as goal

pub returns-in-empty-clause-app : goal.returns-in-empty-clause-app
returns-in-empty-clause-app t c = no_arguments (app_of c.args.command) c.args.arguments.now c.in-empty.len_below

pub returns-in_ok-arg-in-len1-up-clause-app : goal.returns-in_ok-arg-in-len1-up-clause-app
returns-in_ok-arg-in-len1-up-clause-app t c =
    let app = app_of c.args.command in
    let arguments = c.args.arguments.now in
    let with_first = c.in_ok-arg-in-len1-up.ensures.shape c.arg.ensures.local ∙ ap (with_rule app) c.arg.ensures.rule in
    IfOk-weaker c.with_arguments.result _ _ (λ r h. h
    ∙ ap (λ (a : App). with_rules a (map rule_for (take (length arguments - 1) (drop 1 arguments)))) with_first
    ∙ first_argument app _ arguments c.in-len1-up.len_at_least) c.with_arguments.ensures.app
