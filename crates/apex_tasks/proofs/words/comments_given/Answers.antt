-- The flag's text is that of the command's rows.
use Rattle.std.proofs.Common.{◌∙◌, ap, codes}
use Rattle.clap.proofs.WalkLemmas.{first_value-rows}
use Rattle.clap.specs.Words.{found_of}
use Rattle.apex_console.specs.Words.{says_given}
use Rattle.apex_tasks.proofs.words.comments_given.Goals as goal

pub returns : goal.returns
returns c = c.has_flag.ensures ∙ ap says_given (first_value-rows (found_of c.args.matches.now) (codes "comments"))
