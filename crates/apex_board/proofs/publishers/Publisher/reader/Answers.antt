use Rattle.std.proofs.Common.{Some, ap, sym, ◌∙◌, subst}
use Rattle.apex_board.specs.Access.{Held, MaySplit}
use Rattle.apex_board.specs.Cells.{IsKept, known_in, reader_of, told_in}
use Rattle.apex_board.specs.declared.law.View.{View}
use Rattle.apex_board.proofs.Keeps.{tells}
use Rattle.apex_board.proofs.Views.{reads_known}
use Rattle.apex_board.proofs.publishers.Publisher.reader.Goals as goal

pub share-requires : goal.share-requires
share-requires g c =
    let knows = c.self.inside.access.knows in
    subst (λ (v : View). MaySplit IsKept v v (reader_of v)) (sym c.self.invariant.1)
    (tells g.P.Naming.table (known_in knows) (told_in knows))

pub new-requires-clause-name : goal.new-requires-clause-name
new-requires-clause-name g c = c.self.invariant.0 ∙ ap (λ (h : Held). Some h.cell) (sym c.in_ok-access.ensures.given)

pub new-requires-clause-knows : goal.new-requires-clause-knows
new-requires-clause-knows g c =
    reads_known g.P.Naming.table (known_in c.self.inside.access.knows) _
    (ap (λ (h : Held). h.knows) c.in_ok-access.ensures.given ∙ ap reader_of c.self.invariant.1)
