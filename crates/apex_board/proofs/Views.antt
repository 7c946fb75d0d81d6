-- What the pass of a publisher or of a reader knows, and the name of its cell.
use Rattle.std.proofs.Common.{◌≡◌, List, Option, Some, ap, sym, ◌∙◌}
use Rattle.atomic_table.specs.Seated.{TableId}
use Rattle.apex_types.specs.declared.entries.Entry.{Entry}
use Rattle.apex_machine.specs.table.Table.{Table}
use Rattle.apex_board.specs.declared.law.View.{View}
use Rattle.apex_board.specs.declared.law.View.TheVariants.{Publishes, Reads}
use Rattle.apex_board.specs.Cells.{known_in, told_in, told_of}

-- the view of a publisher is that of the histories in it
pub publishes_known : (table : Table) (history told : List Entry) (v : View) → v ≡ Publishes table history told → v ≡ Publishes table (known_in v) (told_in v)
publishes_known table history told v is = is ∙ ap (λ (w : View). Publishes table (known_in w) (told_in w)) (sym is)

-- and so is that of a reader
pub reads_known : (table : Table) (seen : List Entry) (v : View) → v ≡ Reads table seen → v ≡ Reads table (known_in v)
reads_known table seen v is = is ∙ ap (λ (w : View). Reads table (known_in w)) (sym is)

-- two passes of the partition's cell are passes of one cell
pub same_cell : (cell : Option TableId) (a b : TableId) → cell ≡ Some a → cell ≡ Some b → a ≡ b
same_cell cell a b is was = cc (is, was)

-- a pass stays one of the partition's cell
pub still_named : (cell : Option TableId) (a b : TableId) → cell ≡ Some a → b ≡ a → cell ≡ Some b
still_named cell a b is same = is ∙ ap Some (sym same)

-- a publisher that is told what a reader knows knows that the reader has seen it
pub told_of_seen : {table : Table} {history told seen : List Entry} {publisher reader after : View} → publisher ≡ Publishes table history told
    → reader ≡ Reads table seen → after ≡ told_of publisher reader → after ≡ Publishes table history seen
told_of_seen publishes reads is = is ∙ (λ i. told_of (publishes i) (reads i))
