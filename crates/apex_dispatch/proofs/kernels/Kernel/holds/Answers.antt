use Rattle.std.proofs.Common.{arith}
use Rattle.apex_dispatch.proofs.Replays.{kept_sound, kept_time}
use Rattle.apex_dispatch.proofs.kernels.Kernel.holds.Goals as goal

pub returns-clause-records : goal.returns-clause-records
returns-clause-records g c = rw (← c.self.view_is) (kept_sound c.self.invariant).orderly.many

pub returns-clause-within : goal.returns-clause-within
returns-clause-within g c = rw (← c.self.view_is) (kept_sound c.self.invariant).within

pub returns-clause-time : goal.returns-clause-time
returns-clause-time g c =
    let within = c.self.invariant.lawful.limit in
    rw (← c.self.view_is) (omega (arith, kept_time c.self.invariant, (kept_sound c.self.invariant).within, within))

pub returns-clause-stamps : goal.returns-clause-stamps
returns-clause-stamps g c = rw (← c.self.view_is) (kept_sound c.self.invariant).stamped.distinct

pub returns-clause-printable : goal.returns-clause-printable
returns-clause-printable g c = rw (← c.self.view_is) (kept_sound c.self.invariant).known
