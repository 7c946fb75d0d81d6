-- The next core's process is its chosen one, and the next text follows those before it.
use Rattle.std.proofs.Common.{◌≡◌, ◌∙◌, ◌<◌, None, arith, length, refl, set, sym}
use Rattle.std.specs.Prelude.{slice_index_or, slice_set}
use Rattle.apex_machine.specs.processes.Running.{chosen}
use Rattle.apex_types.specs.declared.limits.TheConstants.{MOST_CORES}
use Rattle.apex_moments.specs.Moments.{running_in, with_running}
use Rattle.apex_traces.specs.Trace as trace
use Rattle.apex_moments.proofs.Places.{changed_at, kept_at, place_of, same_at, still_at, text_next}
use Rattle.apex_traces.proofs.TracksShown.{core_still, core_switched, same_found}
use Rattle.apex_traces.proofs.trace.add_runs.Goals as goal
use Rattle.apex_traces.proofs.trace.add_runs.Goals.{then-not-is_same_process, else-not-is_same_process}

pub loop-place-preserved : goal.loop-place-preserved
loop-place-preserved g c =
    let roster = g.S.Store.roster c.args.store.now in
    let at = c.loop-place.invariant in
    let place = c.loop-place.place in
    let old = c.args.running.now in
    let few : place < MOST_CORES = omega (arith, c.loop-place-test.true, c.cores-place-end.ensures.range.1) in
    let kept : place < length old = omega (arith, few, c.requires.many) in
    let before = c.index-running-here.result in
    let is_here : before ≡ slice_index_or c.loop-place.running place before = rw c.from-here.ensures at c.index-running-here.is in
    let was : before ≡ slice_index_or old place None =
    is_here ∙ kept_at (chosen roster) place old _ before kept at.runs ∙ same_at old place before None kept in
    let now : c.chosen-after.result ≡ chosen roster place = rw c.new-core.ensures at c.chosen-after.ensures.value in
    let is : c.chosen-after.result ≡ slice_index_or (running_in roster) place None =
    now ∙ sym (place_of (chosen roster) MOST_CORES place None few) in
    let changes = trace.core_at c.args.table.now c.args.time (with_running old) (with_running (running_in roster)) in
    elim c.if-not-is_same_process.branch [
      | then-not-is_same_process w ↦
          let put : _ ≡ set c.loop-place.running place c.chosen-after.result = w.running-is ∙ rw c.from-here.ensures refl in
          record {
            stamp = at.stamp;
            end = at.end;
            runs = changed_at (chosen roster) place old _ _ _ kept at.runs put now;
            text = text_next changes place _ _ _ at.text
                (rw w.piece-is (core_switched c.args.table.now c.args.time place before c.chosen-after.result _ _
                c.loop-place.piece.items w.add_switch.new.piece.items was is
                (sym c.is_same_process.ensures ∙ w.if-not-is_same_process.true) (rw c.new-core.ensures at w.add_switch.ensures.text)));
            short = rw w.piece-is (omega (arith, at.short, w.add_switch.ensures.short));
          }
      | else-not-is_same_process w ↦
          let same : before ≡ c.chosen-after.result =
          same_found before c.chosen-after.result (sym c.is_same_process.ensures ∙ w.if-not-is_same_process.false) in
          record {
            stamp = at.stamp;
            end = at.end;
            runs = rw w.running-is (still_at (chosen roster) place old _ before kept at.runs (sym is_here ∙ same ∙ now));
            text = text_next changes place _ _ _ at.text
                (rw w.piece-is (core_still c.args.table.now c.args.time place before c.chosen-after.result _ _
                c.loop-place.piece.items was is (sym c.is_same_process.ensures ∙ w.if-not-is_same_process.false)));
            short = rw w.piece-is (omega (arith, at.short));
          }
    ]

pub loop-place-2-preserved : goal.loop-place-2-preserved
loop-place-2-preserved g c =
    let roster = g.S.Store.roster c.args.store.now in
    let at = c.loop-place-2.invariant in
    let place = c.loop-place-2.place in
    let old = c.args.running.now in
    let few : place < MOST_CORES = omega (arith, c.loop-place-2-test.true) in
    let kept : place < length old = omega (arith, few, c.requires.many) in
    let now : c.chosen.result ≡ chosen roster place = rw c.new.ensures at c.chosen.ensures.value in
    let put : slice_set c.loop-place-2.running c.from.result c.chosen.result ≡ set c.loop-place-2.running place c.chosen.result =
    rw c.from.ensures refl in
    record {
      below = omega (arith, few);
      runs = changed_at (chosen roster) place old _ _ _ kept at.runs put now;
      text = at.text;
      short = at.short;
    }
