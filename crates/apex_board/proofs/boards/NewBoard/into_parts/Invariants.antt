use Rattle.std.proofs.Common.{◌≡◌, [], List, All, length}
use Rattle.apex_types.specs.declared.entries.Entry.{Entry}
use Rattle.apex_board.proofs.boards.NewBoard.into_parts.Given as goal

abbrev pub invariant-loop-number : goal.invariant-loop-number
invariant-loop-number g l = record {
  publisher : l.publisher ≡ [];
  given : length l.given.items ≡ l.number;
  unread : All (λ (seen : List Entry). seen ≡ []) l.given.items;
}
