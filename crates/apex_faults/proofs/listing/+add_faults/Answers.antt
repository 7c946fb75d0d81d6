use Rattle.std.proofs.Common.{◌<◌, ◌-◌, ◌++◌, ◌∙◌, ap, sym, arith}
use Rattle.std.proofs.lemmas.Bool.Decides.{nat_tests}
use Rattle.toml.specs.View.{view}
use Rattle.apex_faults.specs.Faults.{faults}
use Rattle.apex_faults.proofs.Mendings.{more_read, last_found}
use Rattle.apex_faults.proofs.listing.+add_faults.Goals as goal

pub returns-in-Some-2 : goal.returns-in-Some-2
returns-in-Some-2 t c =
    let some : 0 < c.args.most = grind (arith, nat_tests) in
    more_read c.args.found.now.items _ c.args.most (view c.args.tree.now) (view c.in_ok-mended.mended) c.in-Some.fault c.in_ok-next.field-0 c.in-Some-2.next some (sym c.requires ∙ c.in-Some.is)
    c.in_ok-mended.ensures c.in-Some-2.is c.in_ok-next.ensures.valid
    (c.in_ok-add_faults-in-Some-2.ensures ∙ ap (λ xs. xs ++ faults (c.args.most - 1) (view c.in_ok-mended.mended)) c.in_ok-push.ensures.items)

pub returns : goal.returns
returns t c = grind (arith, last_found)
