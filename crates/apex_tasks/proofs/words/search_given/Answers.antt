-- The texts of the options are those of the command's rows.
use Rattle.std.proofs.Common.{◌∙◌, codes}
use Rattle.clap.proofs.WalkLemmas.{first_value-rows}
use Rattle.clap.specs.Words.{found_of, rows_of}
use Rattle.apex_tasks.proofs.CommandLemmas.{same_search}
use Rattle.apex_tasks.proofs.words.search_given.Goals as goal

pub returns : goal.returns
returns c =
    let found = found_of c.args.matches.now in
    same_search (rows_of found) (c.get_str.ensures ∙ first_value-rows found (codes "for"))
    (c.get_str-2.ensures ∙ first_value-rows found (codes "worst"))
    (c.get_str-3.ensures ∙ first_value-rows found (codes "process"))
    (c.get_str-4.ensures ∙ first_value-rows found (codes "service"))
    (c.get_str-5.ensures ∙ first_value-rows found (codes "turns"))
    (c.get_str-6.ensures ∙ first_value-rows found (codes "early"))
    (c.get_str-7.ensures ∙ first_value-rows found (codes "states"))
    (c.get_str-8.ensures ∙ first_value-rows found (codes "jobs"))
