-- The mutexes so far follow the text.
use Rattle.std.proofs.Common.{◌≡◌, ◌++◌, take}
use Rattle.std.specs.Prelude.{flat_map}
use Rattle.apex_pictures.specs.Svg.{mutex_text}
use Rattle.apex_pictures.proofs.svg.put_mutexes.Given as goal

abbrev pub invariant-loop-holding : goal.invariant-loop-holding
invariant-loop-holding l = record {
  text : l.text.items ≡ l.fn.text.items ++ flat_map mutex_text (take l.holding-index l.held);
}
