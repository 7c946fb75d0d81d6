use Rattle.std.proofs.Common.{ap, sym, subst}
use Rattle.crossbeam_utils.specs.Seq.{cell_view}
use Rattle.apex_board.specs.Access.{Held, MayHear}
use Rattle.apex_board.specs.Cells.{IsKept}
use Rattle.apex_board.specs.declared.law.View.{View}
use Rattle.apex_board.proofs.access.Access.hear.Goals as goal

pub join-requires-clause-rule : goal.join-requires-clause-rule
join-requires-clause-rule c =
    subst (λ (v : View). MayHear IsKept v (cell_view c.split-given.result)) (sym (ap (λ (h : Held). h.knows) c.self.view_is))
    (subst (λ (w : View). MayHear IsKept c.args.self.now.knows w) (sym c.split-given.ensures.given) c.requires.hears)
