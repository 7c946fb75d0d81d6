use Rattle.std.proofs.Common.{[], Some, ap, sym, ◌∙◌, subst}
use Rattle.apex_board.specs.Access.{Held, MaySplit}
use Rattle.apex_board.specs.Cells.{IsKept, known_in}
use Rattle.apex_board.specs.declared.law.View.{View}
use Rattle.apex_board.specs.declared.law.View.TheVariants.{Publishes, Spent}
use Rattle.apex_board.proofs.Keeps.{opens}
use Rattle.apex_board.proofs.Views.{publishes_known}
use Rattle.apex_board.proofs.publishers.Publisher.new.Goals as goal

pub split-nobody-requires : goal.split-nobody-requires
split-nobody-requires g c =
    let table = g.P.Naming.table in
    subst (λ (v : View). MaySplit IsKept v (Publishes table [] []) Spent) (sym c.requires.blank)
    (λ pass. opens table pass c.requires.few_cores)

pub invariant_of-result : goal.invariant_of-result
invariant_of-result g c =
    let kept = c.split-nobody.ensures.kept in (
      c.requires.name ∙ ap (λ (h : Held). Some h.cell) (sym kept),
      publishes_known g.P.Naming.table [] [] _ (ap (λ (h : Held). h.knows) kept),
    )

pub returns : goal.returns
returns g c = ap (λ (h : Held). known_in h.knows) c.split-nobody.ensures.kept
