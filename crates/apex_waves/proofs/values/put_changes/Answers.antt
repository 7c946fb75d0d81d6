-- The next change follows those so far.
use Rattle.std.proofs.Common.{◌≡◌, ◌∙◌, ◌+◌, ◌<◌, ◌≤◌, List, ◌++◌, ap, arith, get_or, length}
use Rattle.std.proofs.lemmas.List.{take_all}
use Rattle.std.specs.Prelude.{flat_map}
use Rattle.apex_waves.specs.Levels.{level_of}
use Rattle.apex_waves.specs.Snapshots.{snapshot_in}
use Rattle.apex_waves.specs.Values.{change_in}
use Rattle.apex_waves.specs.declared.signals.Signal.{Signal}
use Rattle.apex_waves.proofs.Nexts.{text_more, value_at, value_more}
use Rattle.apex_waves.proofs.values.put_changes.Goals as goal

pub loop-place-preserved : goal.loop-place-preserved
loop-place-preserved g c =
    let at = c.loop-place.invariant in
    let table = c.args.kernel.now.table in
    let moment = snapshot_in table c.args.kernel.now.machine in
    let signals = c.args.signals.now in
    let i = c.loop-place.place in
    let signal = c.index-signals-place.result in
    let before = c.index-before-place.result in
    let within : i < length signals = omega arith in
    let here : signal ≡ get_or signals i signal = c.index-signals-place.is in
    let put = rw (c.table.ensures, c.level_of-level.ensures) at c.put_change.ensures.text in
    record {
      end = at.end;
      many = omega (arith, c.push.ensures.len, at.many);
      text = λ old are.
          let was : before ≡ level_of old signal =
          value_at (level_of old) signals c.args.before.now i signal before within are here c.index-before-place.is in
          text_more (change_in table old moment) signals i signal _ _ _ within (at.text old are)
          ((rw was at put) ∙ ap (λ (s : Signal). c.loop-place.sheet ++ change_in table old moment s) here);
      levels = value_more (level_of moment) signals i signal _ _ _ within at.levels c.push.ensures.items
          (c.level_of-level.ensures ∙ ap (level_of moment) here);
      short = omega (arith, c.put_change.ensures.short, at.short);
    }

pub returns-clause-text : goal.returns-clause-text
returns-clause-text g c = λ old are.
    let signals = c.args.signals.now in
    let table = c.args.kernel.now.table in
    let moment = snapshot_in table c.args.kernel.now.machine in
    let past : length signals ≤ c.loop-place.place = omega arith in
    c.loop-place.invariant.text old are
    ∙ ap (λ (l : List Signal). c.args.sheet.now ++ flat_map (change_in table old moment) l)
    (take_all c.loop-place.place signals past)
