-- The events of the items so far are listed.
use Rattle.std.proofs.Common.{◌≡◌, ◌≤◌, ◌++◌, drop, length}
use Rattle.std.specs.List.{All}
use Rattle.apex_machine.specs.Events.{IsWithin}
use Rattle.apex_schedules.specs.Schedule.{events_of_items}
use Rattle.apex_views.proofs.plans.listed.Given as goal

abbrev pub invariant-loop-item : goal.invariant-loop-item
invariant-loop-item l = record {
  short : length l.events.items ≤ l.table.limit;
  split : events_of_items l.items ≡ l.events.items ++ events_of_items (drop l.item-index l.items);
  within : All (IsWithin l.table.cores) l.events.items;
}
