use Rattle.std.proofs.Common.{◌≡◌, map, take}
use Rattle.apex_board.specs.Fronts.{byte_of}
use Rattle.apex_board.proofs.fronts.Front.from_words.Given as goal

abbrev pub invariant-loop-core : goal.invariant-loop-core
invariant-loop-core l = map byte_of l.chosen.items ≡ take l.core l.bytes
