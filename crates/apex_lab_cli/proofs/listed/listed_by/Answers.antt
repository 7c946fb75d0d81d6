-- What the source gave.
use Rattle.std.proofs.lemmas.Result.{err_from_is_err_and}
use Rattle.apex_lab_cli.proofs.listed.listed_by.Goals as goal

pub returns-in_err-made : goal.returns-in_err-made
returns-in_err-made g c =
    let p = err_from_is_err_and c.from_residual.result c.from_residual.ensures.1 in
    rw (p.1, p.2) c.in_err-made.ensures.gives

pub returns : goal.returns
returns g c = rw c.in-Listing.is at c.in_ok-made.ensures.gives
