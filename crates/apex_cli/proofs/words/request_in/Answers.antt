use Rattle.std.proofs.Common.{rules, ◌≡◌, ◌∙◌, ap, map, refl, string_bytes, subst, sym, true, Err}
use Rattle.clap.specs.Words.{App, is_simple_and_free, subcommand_rows_of}
use Rattle.std.proofs.lemmas.Result.{err_from_is_err_and}
use Rattle.apex_console.specs.declared.CliFault.TheVariants.{Usage}
use Rattle.apex_cli.specs.Words.{apex, request_in}
use Rattle.apex_console.specs.Words.{HasFault, NamesCommand, with_rules}
use Rattle.apex_console.proofs.CommandLemmas.{asks_nothing, same_fault}
use Rattle.apex_cli.proofs.words.request_in.Goals as goal

pub matches_of-requires : goal.matches_of-requires
unfolding with_rules
matches_of-requires c =
    let free : is_simple_and_free apex ≡ true = search rules in
    ap is_simple_and_free c.in-Ok.ensures ∙ free

pub returns-in_err-matches-clause-usage : goal.returns-in_err-matches-clause-usage
returns-in_err-matches-clause-usage c =
    let words = map string_bytes c.args.words.now in
    let p = err_from_is_err_and c.from_residual.result c.from_residual.ensures.1 in
    rw (p.1, p.2) (λ e. asks_nothing request_in apex words (subst (λ (a : App). HasFault a words) c.in-Ok.ensures
    (c.in_err-matches.ensures.usage (ap Err (same_fault _ c.in_err-matches.field-0.0 Usage refl e)))))

pub returns-in-Some-clause-ok : goal.returns-in-Some-clause-ok
returns-in-Some-clause-ok c =
    let words = map string_bytes c.args.words.now in
    let names = subst (λ (a : App). NamesCommand a words (subcommand_rows_of c.in_ok-matches.matches)) c.in-Ok.ensures c.in_ok-matches.ensures.ok in
    rw (names.0, names.1) (sym c.in-Some.ensures)
