-- The line of the end has the time that the next moment would have.
use Rattle.std.proofs.Common.{◌∙◌, ap, arith}
use Rattle.apex_moments.specs.declared.instants.Instant.{Instant}
use Rattle.apex_moments.proofs.NextInstants.{next_now, place_within}
use Rattle.apex_waves.proofs.printing.put_end.Goals as goal

pub next-end-requires : goal.next-end-requires
next-end-requires g c =
    let few = place_within c.args.kernel.now.machine.history in
    omega (arith, rw (← c.requires.course.instant) at few, c.holds.ensures.within, c.holds.ensures.lawful.limit.1)

pub units-requires : goal.units-requires
units-requires g c =
    omega (arith, ap (λ (i : Instant). i.now) c.next-end.ensures ∙ next_now c.args.course.now.instant c.now.result, c.now.ensures, c.holds.ensures.time)

pub returns : goal.returns
returns g c =
    rw (c.units.ensures, c.next-end.ensures, c.now.ensures, c.requires.course.instant) at c.put_time.ensures.text
