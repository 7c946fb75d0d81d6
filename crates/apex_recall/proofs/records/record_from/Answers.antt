use Rattle.std.proofs.Common.{◌∙◌, ap, slice_index, to_z, w64}
use Rattle.std.proofs.lemmas.Int.{to_z_pos}
use Rattle.std.proofs.lemmas.List.{take_rest}
use Rattle.apex_recall.proofs.RecordsOf.{record_of_parts}
use Rattle.apex_recall.specs.Records.{owned_in}
use Rattle.apex_recall.proofs.records.record_from.Goals as goal

pub returns : goal.returns
returns c =
    let words = c.args.words.now in
    record_of_parts c.args.attributes c.to_le_bytes.result c.to_le_bytes-2.result words c.new.result c.suspender_in.result
    c.wait_of.result (to_z w64 (slice_index words 3)) c.instant_in.result c.instant_in-2.result
    c.owned_in.result c.new.ensures c.suspender_in.ensures c.wait_of.ensures
    (to_z_pos w64 (slice_index words 3) c.requires.since) c.instant_in.ensures
    c.instant_in-2.ensures (c.owned_in.ensures ∙ ap owned_in (take_rest words 7))
    c.to_le_bytes.ensures c.to_le_bytes-2.ensures
