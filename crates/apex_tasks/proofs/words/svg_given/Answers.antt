use Rattle.std.proofs.Common.{◌∙◌, ap, codes}
use Rattle.clap.proofs.WalkLemmas.{first_value-rows}
use Rattle.clap.specs.Words.{found_of}
use Rattle.apex_console.specs.Words.{says_given}
use Rattle.apex_tasks.proofs.CommandLemmas.{same_svg}
use Rattle.apex_tasks.proofs.words.svg_given.Goals as goal

pub returns : goal.returns
returns c =
    let found = found_of c.args.matches.now in
    same_svg (c.get_str.ensures ∙ first_value-rows found (codes "from"))
    (c.get_str-2.ensures ∙ first_value-rows found (codes "to"))
    (c.get_str-3.ensures ∙ first_value-rows found (codes "by"))
    (c.get_str-4.ensures ∙ first_value-rows found (codes "only"))
    (c.has_flag.ensures ∙ ap says_given (first_value-rows found (codes "fold")))
