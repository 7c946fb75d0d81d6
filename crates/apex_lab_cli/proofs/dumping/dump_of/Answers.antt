-- The events of a history, run anew, give the kernel's machine.
use Rattle.std.proofs.Common.{refl}
use Rattle.apex_lab_cli.proofs.dumping.dump_of.Goals as goal

pub returns : goal.returns
returns c = record {
  table_is = rw c.in_ok-kernel.ensures c.into_table.ensures;
  opened = rw c.in_ok-kernel.ensures refl;
  within = rw (c.in_ok-kernel.ensures, c.into_table.ensures, c.in_ok-events.ensures) c.holds.ensures.events;
  same = rw (c.in_ok-kernel.ensures, c.into_table.ensures, c.in_ok-events.ensures) c.holds.ensures.replays;
}
