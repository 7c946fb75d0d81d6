use Rattle.std.proofs.Common.{◌∙◌, ap, refl, arith}
use Rattle.apex_machine.specs.processes.Roster.{record_at}
use Rattle.apex_forms.proofs.Ranking.{contests_more}
use Rattle.apex_forms.specs.Forms.{contest_of}
use Rattle.apex_forms.specs.Terms.{Mode}
use Rattle.apex_forms.proofs.forms.put_contests.Goals as goal

pub loop-place-preserved : goal.loop-place-preserved
loop-place-preserved c =
    let store = c.args.store.now in
    let place = c.loop-place.place in
    contests_more store c.loop-place.contests place place c.contest_of.result c.loop-place.invariant
    (omega (arith, c.loop-place-test.true, c.process_count-place-end.ensures.range)) refl
    (c.contest_of.ensures
    ∙ ap (λ (m : Mode). contest_of m c.record.result.now) c.mode-mode.ensures
    ∙ ap (contest_of store.mode) (c.record.ensures ∙ ap (record_at store) c.at.ensures))
