-- The lines so far follow the text.
use Rattle.std.proofs.Common.{◌≡◌, ◌++◌, take}
use Rattle.std.specs.Prelude.{flat_map}
use Rattle.apex_pictures.specs.Svg.{dash_to}
use Rattle.apex_pictures.proofs.svg.put_dashes.Given as goal

abbrev pub invariant-loop-notice : goal.invariant-loop-notice
invariant-loop-notice l = record {
  text : l.text.items ≡ l.fn.text.items ++ flat_map (dash_to l.frame l.entry.process) (take l.notice-index l.entry.notices);
}
