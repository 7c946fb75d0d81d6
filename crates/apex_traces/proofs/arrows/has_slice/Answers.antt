-- A process has a slice if it is started.
use Rattle.std.proofs.Common.{◌∙◌, ◌<◌, ap, arith, length}
use Rattle.apex_machine.specs.declared.records.Record.{Record}
use Rattle.apex_traces.proofs.Arrowed.{slice_in}
use Rattle.apex_traces.proofs.arrows.has_slice.Goals as goal

pub returns-then-place-process_count : goal.returns-then-place-process_count
returns-then-place-process_count g c =
    let roster = g.S.Store.roster c.args.store.now in
    let within : c.args.process < length roster.records =
    omega (arith, c.place.ensures.value, c.process_count.ensures.value, c.if-place-process_count.true) in
    ap (λ (r : Record). r.started) c.record.ensures ∙ slice_in roster c.args.process within
