-- The processes of the cores so far are behind the old text of the line, with at most 11 bytes each.
use Rattle.std.proofs.Common.{◌≡◌, ◌+◌, ◌*◌, ◌≤◌, ◌++◌, take}
use Rattle.std.specs.Prelude.{flat_map}
use Rattle.arrayvec.specs.ArrayString.{array_string_len}
use Rattle.apex_cli.specs.FrontLines.{running_text}
use Rattle.apex_cli.proofs.fronts.put_chosen.Given as goal

abbrev pub invariant-loop-running : goal.invariant-loop-running
invariant-loop-running l = record {
  text : l.line.bytes ≡ l.fn.line.bytes ++ flat_map running_text (take l.running-index l.chosen);
  short : array_string_len l.line ≤ array_string_len l.fn.line + 11 * l.running-index;
}
