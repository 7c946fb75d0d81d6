use Rattle.std.proofs.Common.{◌≡◌, ◌∙◌, ◌+◌, ◌-◌, ◌<◌, ◌≤◌, ap, sym, refl, arith, length, replicate}
use Rattle.apex_machine.specs.Machine.{Machine, accept}
use Rattle.apex_dispatch.specs.Kernel.{KernelState, kernel_in}
use Rattle.apex_laws.proofs.Runs.{accept-full, run-full}
use Rattle.apex_console.proofs.ItemRuns.{length-accept, no_room, repeat_next}
use Rattle.apex_console.proofs.events.run_repeated.Goals as goal

pub loop-round-init : goal.loop-round-init
loop-round-init g c =
    let all : c.args.times - 0 ≡ c.args.times = omega arith in
    record {
      table = refl;
      values = c.holds.ensures.values;
      rest = rw all refl;
      count = omega arith;
      within = c.holds.ensures.within;
    }

pub returns-in_err-accept-clause-done : goal.returns-in_err-accept-clause-done
returns-in_err-accept-clause-done g c =
    let table = c.args.kernel.now.table in
    let machine = c.loop-round.kernel.machine in
    let invariant = c.loop-round.invariant in
    let full : table.limit ≤ length machine.history =
    no_room _ _ (λ room. c.in_err-accept.ensures.accepted.1 (rw invariant.table room)) in
    let store = c.accept.new.self.store in
    let done : c.accept.new.self ≡ kernel_in table (accept table machine c.args.event.now) store =
    rw (← invariant.table) c.in_err-accept.ensures.done in
    let left = replicate (c.args.times - c.loop-round.round) c.args.event.now in
    done ∙ ap (λ (m : Machine). kernel_in table m store)
    (accept-full table machine c.args.event.now full ∙ sym (run-full table machine left full) ∙ invariant.rest)

pub loop-round-preserved : goal.loop-round-preserved
loop-round-preserved g c =
    let table = c.args.kernel.now.table in
    let machine = c.loop-round.kernel.machine in
    let invariant = c.loop-round.invariant in
    let store = c.accept.new.self.store in
    let done : c.accept.new.self ≡ kernel_in table (accept table machine c.args.event.now) store =
    rw (← invariant.table) c.in_ok-accept.ensures.done in
    let new : c.accept.new.self.machine ≡ accept table machine c.args.event.now =
    ap (λ (k : KernelState _). k.machine) done in
    let room : length machine.history < table.limit =
    rw (← invariant.table) (c.in_ok-accept.ensures.accepted.0 refl) in
    let longer = length-accept table machine c.args.event.now room in
    record {
      table = ap (λ (k : KernelState _). k.table) done;
      values = done ∙ ap (λ (m : Machine). kernel_in table m store) (sym new);
      rest = repeat_next table machine _ c.args.event.now (c.args.times - c.loop-round.round) (c.args.times - (c.loop-round.round + 1)) _
          (omega (arith, c.loop-round-test.true)) new invariant.rest;
      count = rw (new, longer) (omega (arith, invariant.count));
      within = rw (new, longer) (omega (arith, room));
    }
