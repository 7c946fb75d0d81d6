-- The flag's text is that of the command's rows.
use Rattle.std.proofs.Common.{◌≡◌, ◌∙◌, ap, codes, false, refl, sym, true}
use Rattle.clap.proofs.WalkLemmas.{first_value-rows}
use Rattle.clap.specs.Words.{first_of, found_of, rows_of}
use Rattle.apex_console.specs.Words.{says_given}
use Rattle.apex_tasks.proofs.words.form_given.Goals as goal

pub returns-then-has_flag : goal.returns-then-has_flag
returns-then-has_flag c =
    let found = found_of c.args.matches.now in
    let is : says_given (first_of (codes "json") (rows_of found)) ≡ true =
    ap says_given (sym (first_value-rows found (codes "json"))) ∙ sym c.has_flag.ensures ∙ c.if-has_flag.true in
    rw is refl

pub returns-else-has_flag : goal.returns-else-has_flag
returns-else-has_flag c =
    let found = found_of c.args.matches.now in
    let is : says_given (first_of (codes "json") (rows_of found)) ≡ false =
    ap says_given (sym (first_value-rows found (codes "json"))) ∙ sym c.has_flag.ensures ∙ c.if-has_flag.false in
    rw is refl
