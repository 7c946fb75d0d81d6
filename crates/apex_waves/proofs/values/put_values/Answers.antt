-- The next value follows those so far.
use Rattle.std.proofs.Common.{◌≡◌, ◌∙◌, ◌+◌, ◌<◌, ◌++◌, ap, arith, get_or, length}
use Rattle.apex_waves.specs.Levels.{level_of}
use Rattle.apex_waves.specs.Snapshots.{snapshot_in}
use Rattle.apex_waves.specs.Values.{value_in}
use Rattle.apex_waves.specs.declared.signals.Signal.{Signal}
use Rattle.apex_waves.proofs.Nexts.{text_more, value_more}
use Rattle.apex_waves.proofs.values.put_values.Goals as goal

pub loop-signal-preserved : goal.loop-signal-preserved
loop-signal-preserved g c =
    let at = c.loop-signal.invariant in
    let table = c.args.kernel.now.table in
    let moment = snapshot_in table c.args.kernel.now.machine in
    let signals = c.args.signals.now in
    let i = c.loop-signal.signal-index in
    let signal = c.signal-item.result in
    let within : i < length signals = omega arith in
    let here : signal ≡ get_or signals i signal = c.signal-item.is in
    let put = (rw (c.table.ensures, c.level_of-level.ensures) at c.put_value.ensures.text)
    ∙ ap (λ (s : Signal). c.loop-signal.sheet ++ value_in table moment s) here in
    record {
      many = omega (arith, c.push.ensures.len, at.many);
      text = text_more (value_in table moment) signals i signal _ _ _ within at.text put;
      levels = value_more (level_of moment) signals i signal _ _ _ within at.levels c.push.ensures.items
          (c.level_of-level.ensures ∙ ap (level_of moment) here);
      short = omega (arith, c.put_value.ensures.short, at.short);
    }
