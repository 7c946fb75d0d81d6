-- A listing that was written whole, or not to its end.
use Rattle.std.proofs.Common.{◌≡◌, refl, List, ℕ, Option, None, Some}
use Rattle.std.specs.Io.KnownBytes.{Appends}
use Rattle.apex_machine.specs.Machine.{Machine}
use Rattle.apex_machine.specs.table.Table.{Table}
use Rattle.apex_history.specs.Counted.{AppendsBeginning, one_more}
use Rattle.apex_console.specs.declared.CliFault.TheVariants.{Write}
use Rattle.apex_views.specs.Shows.{Shows}
use Rattle.apex_views.specs.Plans.{listing_text}
use Rattle.apex_showings.specs.Showings.{listed}
use Rattle.apex_showings.specs.declared.Listing.{Listing}
use Rattle.apex_views.proofs.Endings.{shows_prefix, shows_whole}

module _ (listing : Listing) (table : Table) (machine : Machine) {held after : Option (List ℕ)} {failed failures : ℕ} where
  pub lists_whole : Appends held after (listing_text listing table machine) → failures ≡ failed
      → Shows (listed listing) table machine None held failed None after failures
  lists_whole appends same = shows_whole (listing_text listing table machine, refl, appends) same

  pub lists_prefix : AppendsBeginning held after (listing_text listing table machine) → failures ≡ one_more failed
      → Shows (listed listing) table machine None held failed (Some Write) after failures
  lists_prefix begun same = shows_prefix (listing_text listing table machine, refl, begun) same
