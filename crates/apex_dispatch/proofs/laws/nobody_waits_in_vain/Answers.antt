use Rattle.apex_laws.proofs.Kept.{never_in_vain}
use Rattle.apex_dispatch.proofs.laws.nobody_waits_in_vain.Goals as goal

pub returns : goal.returns
returns g c =
    never_in_vain c.args.kernel.now.table c.args.kernel.now.machine c.holds.ensures.lawful c.holds.ensures.replays
