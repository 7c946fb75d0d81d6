-- The words so far are behind the old text of the line, with at most a space and an argument's bytes each.
use Rattle.std.proofs.Common.{◌≡◌, ◌+◌, ◌*◌, ◌≤◌, ◌∷◌, ◌++◌, take}
use Rattle.std.specs.Prelude.{flat_map}
use Rattle.arrayvec.specs.ArrayVec.{array_vec_len}
use Rattle.apex_machine.specs.table.Table.{literal_text}
use Rattle.apex_calls.specs.CallText.{name_of, word_text}
use Rattle.apex_history.specs.declared.puts.TheConstants.{ARGUMENT_ROOM}
use Rattle.apex_history.proofs.puts.call.put_words.Given as goal

abbrev pub invariant-loop-shape : goal.invariant-loop-shape
invariant-loop-shape l = record {
  text :
      l.line.items
      ≡ l.fn.line.items
      ++ flat_map (λ s. 32 ∷ word_text (name_of l.table) (literal_text l.table) l.arguments s) (take l.shape-index l.shapes);
  short : array_vec_len l.line ≤ array_vec_len l.fn.line + (ARGUMENT_ROOM + 1) * l.shape-index;
}
