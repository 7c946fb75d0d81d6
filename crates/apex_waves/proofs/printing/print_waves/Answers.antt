-- The writer has a prefix of the dump at any time.
use Rattle.std.proofs.Common.{◌≡◌, ◌∙◌, ap, arith, drop, refl, subst, sym}
use Rattle.std.proofs.lemmas.Result.{on_err_weaker, on_ok_weaker}
use Rattle.apex_machine.specs.Machine.{Machine, accept, opening, run}
use Rattle.apex_dispatch.specs.Kernel.{KernelState, kernel_in}
use Rattle.apex_history.proofs.Outcomes.{OnErr-always}
use Rattle.apex_history.proofs.Passing.{beginning_after, passes_all, passes_then}
use Rattle.apex_waves.specs.Dumps.{dump_text}
use Rattle.apex_waves.specs.Printing.{Grows, IsFollowed}
use Rattle.apex_waves.proofs.Printed.{begun, beginning_of_dump, passes_end, printed_more}
use Rattle.apex_waves.proofs.Steps.{followed_accept, followed_opening}
use Rattle.apex_moments.proofs.EventsOf.{run_ended, run_next}
use Rattle.apex_waves.proofs.printing.print_waves.Goals as goal

pub loop-event-init : goal.loop-event-init
loop-event-init g c =
    let table = c.args.kernel.now.table in
    record {
      table = refl;
      values = c.holds.ensures.values;
      rest = ap (λ (m : Machine). run table m c.args.events.now) c.requires.opened;
      followed = rw c.requires.opened (followed_opening table);
      course = c.put_head-course.ensures.course;
      signals = rw c.table.ensures at c.signals_of-signals.ensures;
      text = begun _ table c.args.kernel.now.machine _ c.requires.opened c.put_head-course.ensures.text;
      failures = refl;
    }

pub returns-in_err-make_room-clause-err : goal.returns-in_err-make_room-clause-err
returns-in_err-make_room-clause-err g c =
    let at = c.loop-event.invariant in
    let table = c.args.kernel.now.table in
    OnErr-always c.from_residual.result
    (beginning_of_dump _ _ table c.loop-event.kernel.machine _ (drop c.loop-event.event-index c.args.events.now) at.followed at.rest
    (beginning_after _ _ _ _ _ at.text c.in_err-make_room.ensures.err))

pub loop-event-preserved : goal.loop-event-preserved
loop-event-preserved g c =
    let at = c.loop-event.invariant in
    let table = c.args.kernel.now.table in
    let machine = c.loop-event.kernel.machine in
    let next = c.put_event.new.kernel.machine in
    let store = c.put_event.new.kernel.store in
    let done : c.put_event.new.kernel ≡ kernel_in table (accept table machine c.event-item.result) store =
    rw (← at.table) c.put_event.ensures.done in
    let new : next ≡ accept table machine c.event-item.result = ap (λ (k : KernelState _). k.machine) done in
    let grows : Grows table machine next c.make_room.new.self c.put_event.new.sheet = rw (← at.table) c.put_event.ensures.grows in
    let passes = passes_then _ _ _ _ _ _ at.text c.in_ok-make_room.ensures.ok in
    record {
      table = ap (λ (k : KernelState _). k.table) done;
      values = done ∙ ap (λ (m : Machine). kernel_in table m store) (sym new);
      rest = run_next table machine next c.args.events.now c.loop-event.event-index c.event-item.result _
          (omega arith) c.event-item.is new at.rest;
      followed = subst (IsFollowed table) (sym new) (followed_accept table machine at.followed c.event-item.result);
      course = rw (← at.table) c.put_event.ensures.course;
      signals = at.signals;
      text = printed_more _ _ table machine next c.make_room.new.self c.put_event.new.sheet passes grows;
      failures = c.in_ok-make_room.ensures.counted ∙ at.failures;
    }

pub put_event-requires-clause-course : goal.put_event-requires-clause-course
put_event-requires-clause-course g c = rw c.loop-event.invariant.table c.loop-event.invariant.course

pub put_end-requires-clause-course : goal.put_end-requires-clause-course
put_end-requires-clause-course g c = rw c.loop-event.invariant.table c.loop-event.invariant.course

pub returns-in_err-make_room-2-clause-err : goal.returns-in_err-make_room-2-clause-err
returns-in_err-make_room-2-clause-err g c =
    let at = c.loop-event.invariant in
    let table = c.args.kernel.now.table in
    OnErr-always c.from_residual-in_err-make_room-2.result
    (beginning_of_dump _ _ table c.loop-event.kernel.machine _ (drop c.loop-event.event-index c.args.events.now) at.followed at.rest
    (beginning_after _ _ _ _ _ at.text c.in_err-make_room-2.ensures.err))

pub returns-clause-ok : goal.returns-clause-ok
returns-clause-ok g c =
    let at = c.loop-event.invariant in
    let table = c.args.kernel.now.table in
    let machine = c.loop-event.kernel.machine in
    let end = run table (opening table) c.args.events.now in
    let ended : machine ≡ end = run_ended table machine c.args.events.now c.loop-event.event-index end c.loop-event-test.false at.rest in
    let passes = passes_then _ _ _ _ _ _ at.text c.in_ok-make_room-2.ensures.ok in
    let whole = passes_end _ _ table machine _ _ passes c.put_end.ensures in
    on_ok_weaker c.hand_on.result
    (λ done. rw (← ended) (passes_all _ _ _ (dump_text table machine) _ whole done))
    c.hand_on.ensures.ok

pub returns-clause-err : goal.returns-clause-err
returns-clause-err g c =
    let at = c.loop-event.invariant in
    let table = c.args.kernel.now.table in
    let machine = c.loop-event.kernel.machine in
    let end = run table (opening table) c.args.events.now in
    let ended : machine ≡ end = run_ended table machine c.args.events.now c.loop-event.event-index end c.loop-event-test.false at.rest in
    let passes = passes_then _ _ _ _ _ _ at.text c.in_ok-make_room-2.ensures.ok in
    let whole = passes_end _ _ table machine _ _ passes c.put_end.ensures in
    on_err_weaker c.hand_on.result
    (λ begun. rw (← ended) (beginning_after _ _ _ (dump_text table machine) _ whole begun))
    c.hand_on.ensures.err
