use Rattle.apex_json.specs.declared.Form.TheVariants.{Json}
use Rattle.apex_showings.specs.declared.Listing.TheVariants.{Status}
use Rattle.apex_views.proofs.ListingEndings.{lists_prefix, lists_whole}
use Rattle.apex_views.proofs.listings.write_status_objects.Goals as goal

pub returns-in-Ok : goal.returns-in-Ok
returns-in-Ok g c = lists_whole (Status Json) c.args.kernel.now.table c.args.kernel.now.machine c.in-Ok.ensures.ok c.in-Ok.ensures.counted

pub returns-in-Err : goal.returns-in-Err
returns-in-Err g c = lists_prefix (Status Json) c.args.kernel.now.table c.args.kernel.now.machine c.in-Err.ensures.err c.in-Err.ensures.counted
