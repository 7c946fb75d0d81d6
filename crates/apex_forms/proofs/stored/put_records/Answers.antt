use Rattle.std.proofs.Common.{◌≡◌, ◌≤◌, ◌<◌, ◌∙◌, List, ℕ, ap, get_or, length, subst, take, arith}
use Rattle.std.proofs.lemmas.List.{take_all}
use Rattle.apex_alike.specs.Canonical.{canonical_record, canonical_roster}
use Rattle.apex_machine.specs.processes.Roster.{record_at}
use Rattle.apex_machine.specs.services.ProcessServices.{ProcessObject}
use Rattle.apex_forms.proofs.Forming.{canonical_at, canonical_stamp, length-canonical}
use Rattle.apex_forms.proofs.Lengths.{length-first, length-record, length-records, record_put}
use Rattle.apex_forms.specs.Forms.{with_moments}
use Rattle.apex_forms.specs.Parts.{IsPut}
use Rattle.apex_forms.specs.Records.{record_words}
use Rattle.apex_forms.specs.Stored.{records_words}
use Rattle.apex_forms.proofs.stored.put_records.Goals as goal

pub canonical_moments-moments-requires-clause-known : goal.canonical_moments-moments-requires-clause-known
canonical_moments-moments-requires-clause-known c = omega arith

pub canonical_moments-moments-requires-clause-fields : goal.canonical_moments-moments-requires-clause-fields
canonical_moments-moments-requires-clause-fields c =
    c.record-fields.ensures ∙ ap (record_at c.args.store.now) c.at.ensures

pub record_words-requires : goal.record_words-requires
record_words-requires c =
    let store = c.args.store.now in
    let fields = c.record-fields.result.now in
    canonical_stamp store c.args.now c.loop-place.place (with_moments fields c.canonical_moments-moments.result)
    (c.canonical_moments-moments.ensures
    ∙ ap (canonical_record store c.args.now c.loop-place.place) (c.record-fields.ensures ∙ ap (record_at store) c.at.ensures))

pub put-end-requires : goal.put-end-requires
put-end-requires c =
    let os = c.args.processes.now in
    let rs = (canonical_roster c.args.store.now).records in
    let same : length rs ≡ length c.args.store.now.records = length-canonical c.args.store.now in
    let place = c.loop-place.place in
    let one = ap length c.record_words.ensures
    ∙ length-record c.is_created-created.result (with_moments c.record-fields.result.now c.canonical_moments-moments.result) in
    let here = length-first os rs place (omega arith) (omega arith) in
    let all = length-records os rs (omega arith) in
    omega arith

pub loop-place-preserved : goal.loop-place-preserved
loop-place-preserved c =
    let os = c.args.processes.now in
    let store = c.args.store.now in
    let rs = (canonical_roster store).records in
    let same : length rs ≡ length store.records = length-canonical store in
    let place = c.loop-place.place in
    let o = c.index-processes-place.result in
    let within : place < length store.records = omega arith in
    let created = c.is_created-created.ensures
    ∙ ap (λ (o : ProcessObject). o.created) c.index-processes-place.is in
    let form = with_moments c.record-fields.result.now c.canonical_moments-moments.result in
    let fields = canonical_at store c.args.now place form within c.requires.now
    (c.canonical_moments-moments.ensures
    ∙ ap (canonical_record store c.args.now place) (c.record-fields.ensures ∙ ap (record_at store) c.at.ensures)) in
    record_put os rs place o c.record_words.result c.args.at c.loop-place.end
    c.put-end.result c.args.words.now c.loop-place.words c.put-end.new.words (omega arith)
    (omega arith)
    (c.record_words.ensures
    ∙ ap (λ b. record_words b form) created
    ∙ ap (record_words (get_or os place o).created) fields)
    c.loop-place.invariant c.put-end.ensures

pub returns : goal.returns
returns c =
    let os = c.args.processes.now in
    let rs = (canonical_roster c.args.store.now).records in
    let same : length rs ≡ length c.args.store.now.records = length-canonical c.args.store.now in
    let place = c.loop-place.place in
    let no_more : length os ≤ place = omega arith in
    let none_left : length rs ≤ place = omega arith in
    subst (λ (part : List ℕ). IsPut part c.args.at c.args.words.now c.loop-place.end
    c.loop-place.words)
    (ap (λ l. records_words l (take place rs)) (take_all place os no_more)
    ∙ ap (records_words os) (take_all place rs none_left)) c.loop-place.invariant
