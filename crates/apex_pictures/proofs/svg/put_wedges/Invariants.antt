-- The wedges so far follow the text.
use Rattle.std.proofs.Common.{◌≡◌, ◌++◌, take}
use Rattle.std.specs.Prelude.{flat_map}
use Rattle.apex_pictures.specs.Svg.{wedge_at}
use Rattle.apex_pictures.proofs.svg.put_wedges.Given as goal

abbrev pub invariant-loop-notice : goal.invariant-loop-notice
invariant-loop-notice l = record {
  text : l.text.items ≡ l.fn.text.items ++ flat_map (wedge_at l.frame) (take l.notice-index l.entry.notices);
}
