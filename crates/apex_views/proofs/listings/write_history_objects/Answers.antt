use Rattle.apex_json.specs.declared.Form.TheVariants.{Json}
use Rattle.apex_showings.specs.declared.Listing.TheVariants.{Lines}
use Rattle.apex_views.proofs.ListingEndings.{lists_prefix, lists_whole}
use Rattle.apex_views.proofs.listings.write_history_objects.Goals as goal

pub returns-in-Ok : goal.returns-in-Ok
returns-in-Ok g c = lists_whole (Lines Json) c.args.kernel.now.table c.args.kernel.now.machine (rw (c.table.ensures, c.entries.ensures) at c.in-Ok.ensures.ok) c.in-Ok.ensures.counted

pub returns-in-Err : goal.returns-in-Err
returns-in-Err g c = lists_prefix (Lines Json) c.args.kernel.now.table c.args.kernel.now.machine (rw (c.table.ensures, c.entries.ensures) at c.in-Err.ensures.err) c.in-Err.ensures.counted
