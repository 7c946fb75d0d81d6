-- The text of the entry is that of the command's rows.
use Rattle.std.proofs.Common.{rules, ◌∙◌, codes}
use Rattle.clap.proofs.WalkLemmas.{first_value-rows}
use Rattle.clap.specs.Words.{found_of, rows_of}
use Rattle.apex_tasks.proofs.CommandLemmas.{no_why, same_why}
use Rattle.apex_tasks.proofs.words.why_given.Goals as goal

pub returns-in_err-entry : goal.returns-in_err-entry
returns-in_err-entry c =
    let found = found_of c.args.matches.now in
    let none = no_why (rows_of found) c.in_ok-source.ensures (c.in_err-entry.ensures ∙ first_value-rows found (codes "entry")) in
    search rules

pub returns : goal.returns
returns c =
    let found = found_of c.args.matches.now in
    same_why (rows_of found) c.in_ok-source.ensures (c.in_ok-entry.ensures ∙ first_value-rows found (codes "entry"))
