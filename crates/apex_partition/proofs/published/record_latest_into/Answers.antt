use Rattle.std.proofs.Common.{sym, ◌∙◌}
use Rattle.apex_partition.proofs.Latest.{latest_found}
use Rattle.apex_partition.proofs.published.record_latest_into.Goals as goal

pub record_into-requires-clause-who : goal.record_into-requires-clause-who
record_into-requires-clause-who g c = (latest_found _ _ _ _ c.requires.latest c.latest.ensures).by

pub record_into-requires-clause-number : goal.record_into-requires-clause-number
record_into-requires-clause-number g c = (latest_found _ _ _ _ c.requires.latest c.latest.ensures).number

pub returns-clause-history : goal.returns-clause-history
returns-clause-history g c =
    c.record_into.ensures.history ∙ sym (latest_found _ _ _ _ c.requires.latest c.latest.ensures).added

pub returns-clause-latest : goal.returns-clause-latest
returns-clause-latest g c =
    rw c.record_into.ensures.receipt (latest_found _ _ _ _ c.requires.latest c.latest.ensures)
