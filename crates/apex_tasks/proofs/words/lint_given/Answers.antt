-- The texts of the options are those of the command's rows.
use Rattle.std.proofs.Common.{◌∙◌, ap, codes}
use Rattle.clap.proofs.WalkLemmas.{first_value-rows}
use Rattle.clap.specs.Words.{found_of, rows_of}
use Rattle.apex_console.specs.Words.{says_given}
use Rattle.apex_tasks.proofs.CommandLemmas.{same_lint}
use Rattle.apex_tasks.proofs.words.lint_given.Goals as goal

pub returns : goal.returns
returns c =
    let found = found_of c.args.matches.now in
    same_lint (rows_of found) (c.has_flag.ensures ∙ ap says_given (first_value-rows found (codes "json")))
    (c.get_str.ensures ∙ first_value-rows found (codes "name"))
    (c.get_str-2.ensures ∙ first_value-rows found (codes "allow"))
