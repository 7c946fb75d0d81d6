use Rattle.std.proofs.Common.{◌≡◌, ap, ◌∙◌}
use Rattle.apex_partition.specs.Headline.{PartitionState}
use Rattle.apex_partition.proofs.shared.Shared.close.Goals as goal

pub returns-clause-seats : goal.returns-clause-seats
returns-clause-seats g c = λ core seat within.
    let history : c.close.result ≡ c.into_inner-locked.result.machine.history =
    c.close.ensures.history ∙ ap (λ (k : PartitionState). k.machine.history) (c.settle_ticker.ensures.same ∙ c.settle_seats.ensures.same) in
    rw history (c.settle_seats.ensures.settled core seat within)
