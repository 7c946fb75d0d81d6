use Rattle.std.proofs.Common.{rules, ◌∙◌, ap, codes, Option}
use Rattle.std.specs.Prelude.{option_map}
use Rattle.clap.proofs.WalkLemmas.{first_value-rows}
use Rattle.clap.specs.Words.{Text, found_of}
use Rattle.apex_cli.specs.Words.{reports}
use Rattle.apex_cli.proofs.words.report_given.Goals as goal

pub returns-in_err-schedule : goal.returns-in_err-schedule
returns-in_err-schedule c =
    let is = first_value-rows (found_of c.args.matches.now) (codes "schedule") in
    search rules

pub returns : goal.returns
returns c =
    ap (λ (text : Option Text). option_map (reports c.args.report) text)
    (c.in_ok-schedule.ensures ∙ first_value-rows (found_of c.args.matches.now) (codes "schedule"))
