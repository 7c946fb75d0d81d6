use Rattle.std.proofs.Common.{rules, ◌∙◌, ap, ap₂, codes, Option, Bool}
use Rattle.clap.proofs.WalkLemmas.{first_value-rows}
use Rattle.clap.specs.Words.{Text, first_of, found_of, rows_of}
use Rattle.std.specs.Prelude.{option_map, option_and_then}
use Rattle.apex_console.specs.Words.{says_given}
use Rattle.apex_cli.specs.Words.{runs}
use Rattle.apex_cli.proofs.words.run_given.Goals as goal

pub returns-in_err-turns : goal.returns-in_err-turns
returns-in_err-turns c =
    let turns_is = first_value-rows (found_of c.args.matches.now) (codes "turns") in
    search rules

pub returns-in_err-ticks : goal.returns-in_err-ticks
returns-in_err-ticks c =
    let turns_is = first_value-rows (found_of c.args.matches.now) (codes "turns") in
    let ticks_is = first_value-rows (found_of c.args.matches.now) (codes "ticks") in
    search rules

pub returns : goal.returns
returns c =
    let rows = rows_of (found_of c.args.matches.now) in
    ap₂ (λ (turns ticks : Option Text). option_and_then (λ n. option_map (λ k. runs n k c.has_flag.result) ticks) turns)
    (c.in_ok-turns.ensures ∙ first_value-rows (found_of c.args.matches.now) (codes "turns"))
    (c.in_ok-ticks.ensures ∙ first_value-rows (found_of c.args.matches.now) (codes "ticks"))
    ∙ ap (λ (front : Bool). option_and_then (λ n. option_map (λ k. runs n k front) (first_of (codes "ticks") rows)) (first_of (codes "turns") rows))
    (c.has_flag.ensures ∙ ap says_given (first_value-rows (found_of c.args.matches.now) (codes "front")))
