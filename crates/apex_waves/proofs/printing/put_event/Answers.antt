-- The event adds the step of its entry.
use Rattle.std.proofs.Common.{◌≡◌, ◌∙◌, List, ap, arith, refl, subst, sym}
use Rattle.std.specs.Prelude.{map}
use Rattle.apex_machine.specs.Machine.{accept}
use Rattle.apex_dispatch.specs.Kernel.{KernelState}
use Rattle.apex_waves.specs.Dumps.{time_line}
use Rattle.apex_moments.specs.Instants.{instant_after}
use Rattle.apex_waves.specs.Instants.{units}
use Rattle.apex_waves.specs.Levels.{level_of}
use Rattle.apex_waves.specs.Snapshots.{snapshot_in}
use Rattle.apex_waves.specs.Printing.{IsAt}
use Rattle.apex_moments.specs.declared.instants.Instant.{Instant}
use Rattle.apex_waves.specs.declared.signals.Signal.{Signal}
use Rattle.apex_moments.proofs.Pictured.{instant_more}
use Rattle.apex_moments.proofs.NextInstants.{next_now, place_within}
use Rattle.apex_waves.proofs.Nexts.{behind}
use Rattle.apex_waves.proofs.Steps.{followed_machine, step_more}
use Rattle.apex_waves.proofs.printing.put_event.Goals as goal

pub next-course-requires : goal.next-course-requires
next-course-requires g c =
    let few = place_within c.args.kernel.now.machine.history in
    omega (arith, rw (← c.requires.course.instant) at few, c.holds.ensures.within, c.holds.ensures.lawful.limit.1)

pub units-requires : goal.units-requires
units-requires g c =
    omega (arith, ap (λ (i : Instant). i.now) c.next-course.ensures ∙ next_now c.args.course.now.instant c.now.result, c.now.ensures, c.holds-2.ensures.time)

pub returns-in_default-clause-course : goal.returns-in_default-clause-course
returns-in_default-clause-course g c =
    subst (λ (k : KernelState _). IsAt c.args.kernel.now.table k.machine c.args.course.now) (sym c.in_default.ensures.refused)
    c.requires.course

pub returns-clause-course : goal.returns-clause-course
returns-clause-course g c =
    let table = c.args.kernel.now.table in
    let machine = c.args.kernel.now.machine in
    let done = c.in-Ok.ensures.done in
    let new : c.accept.new.self.machine ≡ accept table machine c.args.event = ap (λ (k : KernelState _). k.machine) done in
    let kept : c.accept.new.self.table ≡ table = ap (λ (k : KernelState _). k.table) done in
    record {
      instant = (rw (c.now.ensures, c.requires.course.instant) at c.next-course.ensures)
          ∙ sym (instant_more table machine _ c.args.event (c.in-Ok.ensures.accepted.0 refl) new);
      levels = rw (kept, c.requires.signals) at c.put_changes-course.ensures.levels;
    }

pub returns-clause-grows : goal.returns-clause-grows
returns-clause-grows g c =
    let table = c.args.kernel.now.table in
    let machine = c.args.kernel.now.machine in
    let after = c.accept.new.self.machine in
    let done = c.in-Ok.ensures.done in
    let room = c.in-Ok.ensures.accepted.0 refl in
    let new : after ≡ accept table machine c.args.event = ap (λ (k : KernelState _). k.machine) done in
    let kept : c.accept.new.self.table ≡ table = ap (λ (k : KernelState _). k.table) done in
    let instant : c.next-course.result ≡ instant_after after.history =
    (rw (c.now.ensures, c.requires.course.instant) at c.next-course.ensures)
    ∙ sym (instant_more table machine after c.args.event room new) in
    let time = rw (c.units.ensures, instant) at c.put_time.ensures.text in
    let before = snapshot_in table machine in
    let were = c.as_slice.ensures.value ∙ c.requires.course.levels
    ∙ ap (λ (l : List Signal). map (level_of before) l) (sym c.requires.signals) in
    let changes = rw (kept, c.requires.signals) at (c.put_changes-course.ensures.text before were) in (
      _,
      step_more table machine (followed_machine table machine c.holds.ensures.replays) c.args.event after room new,
      behind c.args.sheet.now (time_line (units (instant_after after.history))) _ _ _ time changes,
    )
