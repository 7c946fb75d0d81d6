use Rattle.std.proofs.Common.{◌≡◌, ◌<◌, ◌≤◌, ◌++◌, length, drop, refl, sym, ap, ◌∙◌, arith}
use Rattle.apex_machine.specs.Machine.{Machine, happen, run, opening, events_of}
use Rattle.apex_dispatch.specs.Kernel.{KernelState, kernel_in}
use Rattle.apex_laws.proofs.Runs.{accept-room, run-append, run-full, run-step, length-happen}
use Rattle.apex_dispatch.proofs.kernels.Kernel.run.Goals as goal

pub loop-event-init : goal.loop-event-init
loop-event-init g c =
    let table = c.args.self.now.table in
    let machine = c.args.self.now.machine in
    let events = c.args.events.now in
    let again = run-append table (opening table) (events_of machine.history) events in
    record {
      table = refl;
      values = c.holds.ensures.values;
      rest = sym (again ∙ ap (λ (m : Machine). run table m events) c.holds.ensures.replays);
      count = omega arith;
      within = c.holds.ensures.within;
    }

pub returns-in_err-accept-clause-done : goal.returns-in_err-accept-clause-done
returns-in_err-accept-clause-done g c =
    let table = c.args.self.now.table in
    let machine = c.loop-event.self.machine in
    let invariant = c.loop-event.invariant in
    let told = c.in_err-accept.ensures.full in
    let full : table.limit ≤ length machine.history =
    omega (arith, told.0, told.1, ap (λ (t : _). t.limit) invariant.table) in
    let end = sym (run-full table machine (drop c.loop-event.event-index c.args.events.now) full) ∙ invariant.rest in
    let ended = run table (opening table) (events_of c.args.self.now.machine.history ++ c.args.events.now) in
    let stays = c.in_err-accept.ensures.refused in
    stays
    ∙ invariant.values
    ∙ ap (λ (m : Machine). kernel_in table m c.loop-event.self.store) end
    ∙ ap (λ (k : KernelState _). kernel_in table ended k.store) (sym stays)

pub loop-event-preserved : goal.loop-event-preserved
loop-event-preserved g c =
    let table = c.args.self.now.table in
    let machine = c.loop-event.self.machine in
    let invariant = c.loop-event.invariant in
    let room : length machine.history < table.limit =
    rw (← invariant.table) (c.in_ok-accept.ensures.accepted.0 refl) in
    let store = c.accept.new.self.store in
    let done : c.accept.new.self ≡ kernel_in table (happen table machine c.event-item.result) store =
    rw (← invariant.table) c.in_ok-accept.ensures.done
    ∙ ap (λ (m : Machine). kernel_in table m store) (accept-room table machine c.event-item.result room) in
    let new : c.accept.new.self.machine ≡ happen table machine c.event-item.result =
    ap (λ (k : KernelState _). k.machine) done in
    let longer = length-happen table machine c.event-item.result in
    record {
      table = ap (λ (k : KernelState _). k.table) done;
      values = done ∙ ap (λ (m : Machine). kernel_in table m store) (sym new);
      rest = run-step table machine c.accept.new.self.machine c.args.events.now c.loop-event.event-index
          c.event-item.result _ c.loop-event-test.true c.event-item.is room new invariant.rest;
      count = rw (new, longer) (omega (arith, invariant.count));
      within = rw (new, longer) (omega (arith, room));
    }
