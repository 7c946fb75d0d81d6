-- The elements so far are behind the earlier text of the line.
use Rattle.std.proofs.Common.{◌≡◌, ◌+◌, ◌*◌, ◌≤◌, ◌++◌, take}
use Rattle.std.specs.Prelude.{flat_map}
use Rattle.arrayvec.specs.ArrayVec.{array_vec_len}
use Rattle.apex_machine.specs.text.Status.{behind_text}
use Rattle.apex_objects.specs.declared.lines.TheConstants.{ELEMENT_ROOM}
use Rattle.apex_objects.proofs.elements.put_others.Given as goal

abbrev pub invariant-loop-element : goal.invariant-loop-element
invariant-loop-element g l = record {
  text :
      l.line.items
      ≡ l.fn.line.items ++ flat_map (behind_text (g.E.Element.text l.table)) (take l.element-index l.elements);
  short : array_vec_len l.line ≤ array_vec_len l.fn.line + ELEMENT_ROOM * l.element-index;
}
