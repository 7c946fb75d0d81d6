use Rattle.std.proofs.Common.{ap, arith, length, not, sym}
use Rattle.apex_machine.specs.table.Table.{Table}
use Rattle.apex_warnings.specs.Cores.{process_stays}
use Rattle.apex_warnings.proofs.Lists.{any_below_at}
use Rattle.apex_warnings.proofs.found.some_process_stays.Goals as goal

pub returns-then-not-is_among : goal.returns-then-not-is_among
returns-then-not-is_among c =
    let table = c.args.steps.now in
    let stays = rw (
      c.is_among.ensures,
      c.init.ensures.value,
      c.at-process.ensures,
      c.cores-cores.ensures.value,
      c.table.ensures,
    ) at c.if-not-is_among.true in
    let many = ap (λ (t : Table). length t.processes) c.table-2.ensures in
    sym (any_below_at (process_stays table) (length table.processes) c.loop-place.place (ap not stays) (omega (arith, many)))
