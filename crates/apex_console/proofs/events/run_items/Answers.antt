use Rattle.std.proofs.Common.{◌≡◌, ◌∙◌, ◌+◌, ◌<◌, ◌≤◌, ap, sym, refl, arith, length, length-append, drop}
use Rattle.std.proofs.lemmas.List.{length-replicate}
use Rattle.apex_machine.specs.Machine.{Machine, run}
use Rattle.apex_dispatch.specs.Kernel.{KernelState, kernel_in}
use Rattle.apex_laws.proofs.Runs.{run-fills, run-full}
use Rattle.apex_schedules.specs.Schedule.{events_of_item, events_of_items}
use Rattle.apex_console.proofs.ItemRuns.{below_at, items_next, items_split, length-run, no_room_for}
use Rattle.apex_console.proofs.events.run_items.Goals as goal

pub loop-item-init : goal.loop-item-init
loop-item-init g c = record {
  table = refl;
  values = c.holds.ensures.values;
  rest = refl;
  count = refl;
  within = c.holds.ensures.within;
}

pub run_repeated-requires : goal.run_repeated-requires
run_repeated-requires g c =
    let below = below_at c.args.kernel.now.table.cores c.args.items.now c.loop-item.item-index c.item-item.result
    (omega arith) c.item-item.is c.requires in
    rw c.loop-item.invariant.table (c.repeated-event.ensures.within _ below)

pub returns-in_err-run_repeated-clause-done : goal.returns-in_err-run_repeated-clause-done
returns-in_err-run_repeated-clause-done g c =
    let table = c.args.kernel.now.table in
    let machine = c.loop-item.kernel.machine in
    let items = c.args.items.now in
    let i = c.loop-item.item-index in
    let item = c.item-item.result in
    let invariant = c.loop-item.invariant in
    let made = run table machine (events_of_item item) in
    let store = c.run_repeated.new.kernel.store in
    let done : c.run_repeated.new.kernel ≡ kernel_in table made store =
    rw (← invariant.table, c.repeated-event.ensures.events) c.in_err-run_repeated.ensures.done in
    let many : length (events_of_item item) ≡ c.repeated-event.result.1 =
    ap length c.repeated-event.ensures.events ∙ length-replicate _ _ in
    let more : table.limit < length machine.history + length (events_of_item item) =
    rw many (no_room_for _ _ (λ fits. c.in_err-run_repeated.ensures.accepted.1 (rw invariant.table fits))) in
    let full = run-fills table machine (events_of_item item) (omega (arith, more)) in
    let rest = items_next table machine made items i item _ (omega arith) c.item-item.is refl invariant.rest in
    done ∙ ap (λ (m : Machine). kernel_in table m store)
    (sym (run-full table made (events_of_items (drop (i + 1) items)) full) ∙ rest)

pub loop-item-preserved : goal.loop-item-preserved
loop-item-preserved g c =
    let table = c.args.kernel.now.table in
    let machine = c.loop-item.kernel.machine in
    let items = c.args.items.now in
    let i = c.loop-item.item-index in
    let item = c.item-item.result in
    let invariant = c.loop-item.invariant in
    let made = run table machine (events_of_item item) in
    let store = c.run_repeated.new.kernel.store in
    let done : c.run_repeated.new.kernel ≡ kernel_in table made store =
    rw (← invariant.table, c.repeated-event.ensures.events) c.in_ok-run_repeated.ensures.done in
    let new : c.run_repeated.new.kernel.machine ≡ made = ap (λ (k : KernelState _). k.machine) done in
    let many : length (events_of_item item) ≡ c.repeated-event.result.1 =
    ap length c.repeated-event.ensures.events ∙ length-replicate _ _ in
    let fits : length machine.history + length (events_of_item item) ≤ table.limit =
    rw many (rw (← invariant.table) (c.in_ok-run_repeated.ensures.accepted.0 refl)) in
    let longer = length-run table machine (events_of_item item) fits in
    let later = events_of_items (drop (i + 1) items) in
    let split : length (events_of_items (drop i items)) ≡ length (events_of_item item) + length later =
    ap length (items_split items i item (omega arith) c.item-item.is) ∙ length-append (events_of_item item) later in
    record {
      table = ap (λ (k : KernelState _). k.table) done;
      values = done ∙ ap (λ (m : Machine). kernel_in table m store) (sym new);
      rest = items_next table machine _ items i item _ (omega arith) c.item-item.is new invariant.rest;
      count = rw (new, longer) (omega (arith, invariant.count, split));
      within = rw (new, longer) (omega (arith, fits));
    }
