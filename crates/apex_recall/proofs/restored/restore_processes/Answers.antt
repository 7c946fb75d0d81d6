use Rattle.std.proofs.Common.{◌≡◌, ◌++◌, ◌∙◌, ap, length, arith}
use Rattle.std.proofs.lemmas.List.{append-nil, drop_all}
use Rattle.apex_recall.specs.Objects.{process_from}
use Rattle.apex_recall.specs.Records.{is_created_in}
use Rattle.apex_recall.proofs.Places.{process_next}
use Rattle.apex_recall.specs.Restored.{processes_in}
use Rattle.apex_recall.proofs.restored.restore_processes.Goals as goal

pub part-requires : goal.part-requires
part-requires c = omega arith

pub loop-place-preserved : goal.loop-place-preserved
loop-place-preserved c =
    process_next c.args.words.now c.args.from c.loop-place.place c.args.processes.now
    c.loop-place.processes c.restore_process.new.process c.loop-place-test.true
    c.loop-place.invariant
    (c.restore_process.ensures ∙ ap process_from
    (c.is_created_in-created.ensures ∙ ap is_created_in c.part.ensures.part))

pub returns : goal.returns
returns c =
    let words = c.args.words.now in
    let old = c.args.processes.now in
    let place = c.loop-place.place in
    let e : place ≡ length old = omega arith in
    c.loop-place.invariant
    ∙ ap (λ rest. processes_in place words c.args.from ++ rest)
    (drop_all place old c.loop-place-test.false)
    ∙ append-nil (processes_in place words c.args.from)
    ∙ ap (λ n. processes_in n words c.args.from) e
