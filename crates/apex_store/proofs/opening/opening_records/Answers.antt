use Rattle.std.proofs.Common.{arith}
use Rattle.apex_machine.specs.processes.Roster.{opening_record}
use Rattle.apex_types.proofs.Places.{map_places_more}
use Rattle.std.proofs.lemmas.Grind.{common_steps}
use Rattle.apex_store.proofs.opening.opening_records.Goals as goal

pub loop-place-preserved : goal.loop-place-preserved
loop-place-preserved c =
    let here = rw c.at.ensures at c.process-process.ensures.place in
    record {
      records = rw (c.push_opening.ensures.records, c.loop-place.invariant.records, map_places_more opening_record c.loop-place.place c.args.table.now.processes c.process-process.result.now here);
      many = omega arith;
      room = omega arith;
    }

pub returns-clause-records : goal.returns-clause-records
returns-clause-records c = grind (arith, common_steps)
