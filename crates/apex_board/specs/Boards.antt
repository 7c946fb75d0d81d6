-- What a contract sees of a new board.
use Rattle.std.specs.Prelude.{◌≡◌, ℕ, List, Option, MatchOption, None}
use Rattle.atomic_table.specs.Seated.{TableId}
use Rattle.apex_types.specs.declared.entries.Entry.{Entry}
use Rattle.apex_board.specs.declared.boards.TheConstants.{MOST_READERS}

-- the most readers of a board
abbrev pub most_readers : ℕ
most_readers = MOST_READERS

-- the cell, if there are readers, and their number
pub record Posts : Type 0 where
  pub cell : Option TableId
  pub readers : ℕ

-- the publisher has published the front after this history; there is none if the partition has no cell
-- to publish in
abbrev pub HasPublished : Option TableId → List Entry → Option (List Entry) → Type 0
HasPublished cell history publisher =
    MatchOption publisher (cell ≡ None) (λ published. published ≡ history)
