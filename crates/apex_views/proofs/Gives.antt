-- What a schedule gives that is read behind its table.
use Rattle.std.proofs.Common.{◌≡◌, refl, List, ℕ, Option}
use Rattle.apex_incoming.specs.Ahead.{IsAhead}
use Rattle.apex_check.specs.Texts.{HasNoSeparator, IsParted}
use Rattle.apex_console.specs.Reports.{answer_of}
use Rattle.apex_console.specs.declared.CliFault.TheVariants.{NoSeparator}
use Rattle.apex_schedules.specs.Readings.{AreItemsOf}
use Rattle.apex_schedules.specs.declared.Item.{Item}
use Rattle.apex_views.specs.Shows.{Gives, IsBehind, fails, ill_scheduled, no_memory, stops, unparted}
use Rattle.apex_showings.specs.Schedules.{IsFaultIn}
use Rattle.apex_showings.specs.Showings.{schedule_read}
use Rattle.apex_showings.specs.declared.ItemsFault.{ItemsFault}
use Rattle.apex_showings.specs.declared.ItemsFault.TheVariants as items
use Rattle.apex_views.specs.Faults.{fault_of_items}
use Rattle.apex_views.specs.declared.faults.ShowFault.TheVariants.{Common}

-- the answer to the items behind a table
pub behind : (bytes table rest : List ℕ) (items : List Item) → IsParted bytes table rest → AreItemsOf rest items
    → IsBehind bytes (answer_of items table)
behind bytes table rest items parted read = record {
  table = table;
  behind = rest;
  items = items;
  parted = parted;
  read = read;
  answers = refl;
}

module _ {left : Option (List ℕ)} {failed : ℕ} (after : ℕ) (bytes : List ℕ) (ahead : IsAhead bytes left) (counts : after ≡ failed) where
  pub gives_unparted : HasNoSeparator bytes → Gives left failed schedule_read (stops (fails (Common NoSeparator))) after
  gives_unparted none = rw counts (unparted bytes ahead none)

  pub gives_bad_schedule : (table rest : List ℕ) (fault : ItemsFault) → IsParted bytes table rest → IsFaultIn rest fault
      → Gives left failed schedule_read (stops (fails (fault_of_items fault))) after
  gives_bad_schedule table rest items.Memory parted is = rw counts no_memory
  gives_bad_schedule table rest (items.Schedule bad) parted is = rw counts (ill_scheduled bytes table rest ahead parted is)
