use Rattle.std.proofs.Common.{ap, sym, subst}
use Rattle.apex_board.specs.Access.{Held, MaySplit}
use Rattle.apex_board.specs.Cells.{IsKept}
use Rattle.apex_board.specs.declared.law.View.{View}
use Rattle.apex_board.proofs.access.Access.split.Goals as goal

pub split-requires-clause-rule : goal.split-requires-clause-rule
split-requires-clause-rule g c =
    subst (λ (v : View). MaySplit IsKept v (g.M.Split.left v) (g.M.Split.right v)) (sym (ap (λ (h : Held). h.knows) c.self.view_is)) c.requires
