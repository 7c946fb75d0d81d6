-- The first item and those behind it.
use Rattle.std.proofs.Common.{rules, ◌∷◌, sym, subst}
use Rattle.std.specs.Fork.{AcceptsAt, ChangesAt}
use Rattle.apex_jobs.specs.Items.{AreChangedFrom, IsEachFrom}
use Rattle.apex_jobs.proofs.Changing.{IsEachFrom-head, IsEachFrom-tail, AreChangedFrom-more}
use Rattle.apex_jobs.proofs.apart.+parts.Goals as goal

pub each_from-one_and_rest-requires-clause-item : goal.each_from-one_and_rest-requires-clause-item
each_from-one_and_rest-requires-clause-item g t c κs within =
    let P = AcceptsAt g.F.Fn c.args.f.now in
    IsEachFrom-head P c.args.first c.in-Some.item.now c.in-Some.rest.now (subst (IsEachFrom P c.args.first) c.in-Some.ensures.cases.0 c.requires.accepts)

pub each_from-one_and_rest-requires-clause-rest : goal.each_from-one_and_rest-requires-clause-rest
each_from-one_and_rest-requires-clause-rest g t c κs within =
    let P = AcceptsAt g.F.Fn c.args.f.now in
    IsEachFrom-tail P c.args.first c.in-Some.item.now c.in-Some.rest.now (subst (IsEachFrom P c.args.first) c.in-Some.ensures.cases.0 c.requires.accepts)

pub each_from-returns-in-Some : goal.each_from-returns-in-Some
each_from-returns-in-Some g t c =
    let R = ChangesAt g.F.Fn c.args.f.now in
    let changed = AreChangedFrom-more R c.args.first c.in-Some.item.now c.one_and_rest.new.item c.in-Some.rest.now c.one_and_rest.new.rest c.one_and_rest.ensures.item c.one_and_rest.ensures.rest in
    subst (λ xs. AreChangedFrom R c.args.first xs (c.one_and_rest.new.item ∷ c.one_and_rest.new.rest)) (sym c.in-Some.ensures.cases.0) changed

pub one_and_rest-returns-clause-item : goal.one_and_rest-returns-clause-item
one_and_rest-returns-clause-item g t c = subst (ChangesAt g.F.Fn c.args.f.now c.args.first c.args.item.now) (search rules) c.join_mut.ensures.0.met.1
