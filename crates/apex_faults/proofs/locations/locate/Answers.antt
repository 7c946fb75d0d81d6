use Rattle.std.proofs.Common.{◌-◌, length, arith}
use Rattle.apex_faults.proofs.locations.locate.Goals as goal

pub returns : goal.returns
returns c =
    (length c.args.text.now - length c.subject_in.result.now, omega arith, c.location_of.ensures)
