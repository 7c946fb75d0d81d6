use Rattle.std.proofs.Common.{List, None, ap, sym, ◌∙◌}
use Rattle.std.specs.List.{last_or}
use Rattle.apex_types.specs.declared.entries.Entry.{Entry}
use Rattle.apex_partition.proofs.Latest.{no_last}
use Rattle.apex_partition.proofs.partitions.Partition.latest.Goals as goal

pub unreachable-requires : goal.unreachable-requires
unreachable-requires c =
    no_last c.self.inside.kernel.machine.history (rw c.self.view_is c.requires)
    (ap (λ (history : List Entry). last_or None history) (sym c.entries.ensures) ∙ (sym c.latest.ensures ∙ c.in-None.is))
