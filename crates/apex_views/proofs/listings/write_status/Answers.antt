use Rattle.std.proofs.KnownBytes.{Keeps-refl}
use Rattle.std.proofs.lemmas.Result.{err_from_is_err_and}
use Rattle.apex_json.specs.declared.Form.TheVariants.{Text}
use Rattle.apex_views.specs.Shows.{unbegun}
use Rattle.apex_showings.specs.declared.Listing.TheVariants.{Status}
use Rattle.apex_views.proofs.ListingEndings.{lists_prefix, lists_whole}
use Rattle.apex_views.proofs.listings.write_status.Goals as goal

pub returns-in_err-page : goal.returns-in_err-page
returns-in_err-page g c =
    let p = err_from_is_err_and c.from_residual.result c.from_residual.ensures.1 in
    rw (p.1, p.2) (unbegun (Keeps-refl _))

pub returns-in-Ok : goal.returns-in-Ok
returns-in-Ok g c = lists_whole (Status Text) c.args.kernel.now.table c.args.kernel.now.machine c.in-Ok.ensures.ok c.in-Ok.ensures.counted

pub returns : goal.returns
returns g c = lists_prefix (Status Text) c.args.kernel.now.table c.args.kernel.now.machine c.in-Err.ensures.err c.in-Err.ensures.counted
