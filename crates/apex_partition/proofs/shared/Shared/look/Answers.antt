use Rattle.std.proofs.Common.{refl}
use Rattle.apex_partition.proofs.shared.Shared.look.Goals as goal

pub returns : goal.returns
returns g c =
    let shown = c.shown.ensures in
    (c.shown.result.now, shown.table, shown.headline, shown.placed, (c.shown.result, c.f.ensures, refl))
