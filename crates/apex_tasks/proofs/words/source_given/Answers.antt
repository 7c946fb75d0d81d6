use Rattle.std.proofs.Common.{◌∙◌, codes}
use Rattle.clap.proofs.WalkLemmas.{first_value-rows}
use Rattle.clap.specs.Words.{found_of}
use Rattle.apex_tasks.proofs.CommandLemmas.{same_given}
use Rattle.apex_tasks.proofs.words.source_given.Goals as goal

pub returns : goal.returns
returns c =
    let found = found_of c.args.matches.now in
    c.source_by.ensures ∙ same_given (c.get_str.ensures ∙ first_value-rows found (codes "schedule"))
    (c.get_str-2.ensures ∙ first_value-rows found (codes "until"))
    (c.get_str-3.ensures ∙ first_value-rows found (codes "turns"))
    (c.get_str-4.ensures ∙ first_value-rows found (codes "early"))
