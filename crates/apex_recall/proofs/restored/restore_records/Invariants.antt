use Rattle.std.proofs.Common.{◌≡◌, ◌++◌, take, drop}
use Rattle.apex_types.specs.Places.{map_places}
use Rattle.apex_recall.specs.Records.{record_from}
use Rattle.apex_recall.specs.Restored.{part, records_from}
use Rattle.apex_forms.specs.declared.records.TheConstants.{RECORD_WORDS}
use Rattle.apex_recall.proofs.restored.restore_records.Given as goal

-- those so far have the records of their words
abbrev pub invariant-loop-place : goal.invariant-loop-place
invariant-loop-place l = l.store ≡ record l.fn.store {
  records = map_places (λ p entry. record_from entry.attributes
      (part l.words (records_from l.table) p RECORD_WORDS)) 0 (take l.place l.table.processes)
      ++ drop l.place l.fn.store.records;
}
