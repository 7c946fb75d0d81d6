use Rattle.std.proofs.Common.{◌<◌, ◌≤◌, ◌∙◌, List, ap, sym, length, arith}
use Rattle.apex_machine.specs.processes.Roster.{Roster}
use Rattle.apex_machine.specs.table.Table.{ProcessConfig, process_config}
use Rattle.apex_recall.proofs.Places.{entry_record, length-written, record_next, values_all}
use Rattle.apex_recall.specs.Restored.{part}
use Rattle.apex_recall.specs.Records.{record_from}
use Rattle.apex_recall.specs.Terms.{Attributes, Record}
use Rattle.apex_forms.specs.declared.records.TheConstants.{RECORD_WORDS}
use Rattle.apex_recall.proofs.restored.restore_records.Goals as goal

pub put-requires : goal.put-requires
put-requires c =
    let table = c.args.table.now in
    let place = c.loop-place.place in
    let within : place ≤ length table.processes = omega arith in
    let many = ap (λ (roster : Roster). length roster.records) c.loop-place.invariant
    ∙ length-written (entry_record table c.args.words.now) table.processes
    c.args.store.now.records place within (sym c.requires.records) in
    omega arith

pub loop-place-preserved : goal.loop-place-preserved
loop-place-preserved c =
    let table = c.args.table.now in
    let words = c.args.words.now in
    let place = c.loop-place.place in
    let in_table : place < length table.processes = omega arith in
    let in_old : place < length c.args.store.now.records = omega arith in
    let given = c.attributes-attributes.ensures
    ∙ ap (λ (entry : ProcessConfig). entry.attributes)
    (c.process.ensures.entry ∙ ap (process_config table) c.at-process.ensures) in
    let here = c.part-record.ensures.part
    ∙ ap (λ from. part words from place RECORD_WORDS) c.requires.from in
    record_next table words c.args.store.now c.loop-place.store c.put.new.self place
    c.at-process.result c.record_from.result in_table in_old c.loop-place.invariant c.put.ensures
    c.at-process.ensures
    (c.record_from.ensures
    ∙ ap (λ (a : Attributes). record_from a c.part-record.result.now) given
    ∙ ap (record_from (process_config table place).attributes) here)

pub returns : goal.returns
returns c =
    let table = c.args.table.now in
    let place = c.loop-place.place in
    let no_more : length table.processes ≤ place = omega arith in
    let none_left : length c.args.store.now.records ≤ place = omega arith in
    c.loop-place.invariant
    ∙ ap (λ (records : List Record). record c.args.store.now { records = records })
    (values_all (entry_record table c.args.words.now) table.processes c.args.store.now.records
    place no_more none_left)
