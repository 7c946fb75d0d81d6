-- What is found is what the search says.
use Rattle.std.proofs.Common.{subst, sym}
use Rattle.std.proofs.lemmas.Result.{err_from_is_err_and}
use Rattle.apex_inquiries.specs.Searches.{IsRefusalOf, asked_name}
use Rattle.apex_questions.specs.declared.Sought.{Sought}
use Rattle.apex_inquiries.proofs.SearchLemmas.{fact_says, facts_say, response_says}
use Rattle.apex_inquiries.proofs.searching.answer_for.Goals as goal

pub returns-in_err-shortest-in-Fact-clause-err : goal.returns-in_err-shortest-in-Fact-clause-err
returns-in_err-shortest-in-Fact-clause-err g c =
    let p = err_from_is_err_and c.from_residual.result c.from_residual.ensures.1 in
    rw (p.1, p.2) (subst (λ (s : Sought). IsRefusalOf (asked_name s) c.args.text.now c.in_err-shortest-in-Fact.field-0.0) (sym c.in-Fact.is)
    c.in_err-shortest-in-Fact.ensures.err)

pub returns-in_ok-shortest-in-Fact-clause-ok : goal.returns-in_ok-shortest-in-Fact-clause-ok
returns-in_ok-shortest-in-Fact-clause-ok g c =
    fact_says c.args.search.now c.args.text.now c.in-Fact.fact c.in-Fact.process c.in-Fact.service c.in_ok-shortest-in-Fact.shortest
    c.in-Fact.is c.in_ok-shortest-in-Fact.ensures.ok

pub returns-in_err-census-in-Facts-clause-err : goal.returns-in_err-census-in-Facts-clause-err
returns-in_err-census-in-Facts-clause-err g c =
    let p = err_from_is_err_and c.from_residual-in_err-census-in-Facts.result c.from_residual-in_err-census-in-Facts.ensures.1 in
    rw (p.1, p.2) (subst (λ (s : Sought). IsRefusalOf (asked_name s) c.args.text.now c.in_err-census-in-Facts.field-0.0) (sym c.in-Facts.is)
    c.in_err-census-in-Facts.ensures.err)

pub returns-in_ok-census-in-Facts-clause-ok : goal.returns-in_ok-census-in-Facts-clause-ok
returns-in_ok-census-in-Facts-clause-ok g c =
    facts_say c.args.search.now c.args.text.now c.in-Facts.process c.in-Facts.service c.in_ok-census-in-Facts.census
    c.in-Facts.is c.in_ok-census-in-Facts.ensures.ok

pub returns-in_err-greatest-in-Response-clause-err : goal.returns-in_err-greatest-in-Response-clause-err
returns-in_err-greatest-in-Response-clause-err g c =
    let p = err_from_is_err_and c.from_residual-in_err-greatest-in-Response.result c.from_residual-in_err-greatest-in-Response.ensures.1 in
    rw (p.1, p.2) (subst (λ (s : Sought). IsRefusalOf (asked_name s) c.args.text.now c.in_err-greatest-in-Response.field-0.0) (sym c.in-Response.is)
    c.in_err-greatest-in-Response.ensures.err)

pub returns-in_ok-greatest-in-Response-clause-ok : goal.returns-in_ok-greatest-in-Response-clause-ok
returns-in_ok-greatest-in-Response-clause-ok g c =
    response_says c.args.search.now c.args.text.now c.in-Response.name c.in_ok-greatest-in-Response.greatest
    c.in-Response.is c.in_ok-greatest-in-Response.ensures.ok
