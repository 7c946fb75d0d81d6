use Rattle.std.proofs.Common.{◌≡◌, List, ap, sym, ◌∙◌, length, rules, subst}
use Rattle.std.specs.Prelude.{vec_len}
use Rattle.apex_receipts.specs.Receipts.{Spoken}
use Rattle.apex_partition.specs.Seats.{IsSeated}
use Rattle.apex_partition.proofs.Seated.{count_fresh, fresh_seats}
use Rattle.apex_partition.proofs.opening.open_read.Goals as goal

pub returns-clause-seated : goal.returns-clause-seated
returns-clause-seated g c = subst IsSeated (sym c.in_ok-scribe.ensures.seats) (fresh_seats 0 g.P.Naming.table.cores)

pub returns-clause-each : goal.returns-clause-each
returns-clause-each g c =
    let count : vec_len c.in_ok-scribe.seats ≡ length c.in_ok-scribe.seats.items = search rules in
    count ∙ (ap (λ (seats : List Spoken). length seats) c.in_ok-scribe.ensures.seats ∙ count_fresh 0 g.P.Naming.table.cores)
