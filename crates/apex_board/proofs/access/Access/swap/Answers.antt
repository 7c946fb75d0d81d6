use Rattle.std.proofs.Common.{ap, sym, subst}
use Rattle.apex_board.specs.Access.{Held, MayTurn}
use Rattle.apex_board.specs.Cells.{IsKept}
use Rattle.apex_board.specs.declared.law.View.{View}
use Rattle.apex_board.proofs.access.Access.swap.Goals as goal

pub swap-requires-clause-rule : goal.swap-requires-clause-rule
swap-requires-clause-rule g c =
    subst (λ (v : View). MayTurn IsKept v (λ found. c.args.words) g.M.Outcome.then) (sym (ap (λ (h : Held). h.knows) c.self.view_is)) c.requires
