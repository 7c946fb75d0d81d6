use Rattle.std.proofs.Common.{ap, sym, subst}
use Rattle.apex_board.specs.Access.{Held, MayTurn}
use Rattle.apex_board.specs.Cells.{IsKept}
use Rattle.apex_board.specs.declared.law.View.{View}
use Rattle.apex_board.proofs.access.Access.load.Goals as goal

pub load-requires-clause-rule : goal.load-requires-clause-rule
load-requires-clause-rule g c =
    subst (λ (v : View). MayTurn IsKept v (λ words. words) g.M.Outcome.then) (sym (ap (λ (h : Held). h.knows) c.self.view_is)) c.requires
