use Rattle.std.proofs.Common.{◌≡◌, [], ◌∷◌, ◌++◌, List, ap, refl, sym, ◌∙◌, subst}
use mathlib.Core.List.{IsPrefix}
use Rattle.apex_types.specs.declared.entries.Entry.{Entry}
use Rattle.apex_board.specs.Access.{MayTurn}
use Rattle.apex_board.specs.Cells.{Adds, IsKept, known_in, told_in}
use Rattle.apex_board.specs.declared.law.View.{View}
use Rattle.apex_board.specs.declared.law.View.TheVariants.{Publishes}
use Rattle.apex_board.proofs.Keeps.{adds}
use Rattle.apex_board.proofs.Views.{publishes_known, still_named}
use Rattle.apex_board.proofs.publishers.publish_as.Given.{Over}
use Rattle.apex_board.proofs.publishers.publish_as.Goals.{After-swap}
use Rattle.apex_board.proofs.publishers.publish_as.Goals as goal

-- the publisher has published the history with one entry more
added : (g : Over) (c : After-swap g)
    → c.swap.new.self.knows ≡ Publishes g.P.Naming.table g.X.Next.history (told_in c.publisher.inside.access.knows)
added g c = subst (λ (v : View). Adds g.X.Next.history v c.swap.new.self.knows) c.publisher.invariant.1 c.swap.ensures.shown

pub swap-requires : goal.swap-requires
swap-requires g c =
    let knows = c.publisher.inside.access.knows in
    let next = g.X.Next.history in
    let more : IsPrefix (known_in knows) next =
    (c.args._latest.now ∷ [], sym (c.requires.named ∙ ap (λ (l : List Entry). l ++ c.args._latest.now ∷ []) (sym c.publisher.view_is))) in
    subst (λ (v : View). MayTurn IsKept v (λ _. c.args.words) (λ before found words after. Adds next before after)) (sym c.publisher.invariant.1)
    (λ pass. adds g.P.Naming.table (known_in knows) (told_in knows) next next c.args.words pass more refl c.requires.shows)

pub invariant_of-publisher : goal.invariant_of-publisher
invariant_of-publisher g c = (
  still_named _ _ _ c.publisher.invariant.0 c.swap.ensures.same,
  publishes_known g.P.Naming.table g.X.Next.history (told_in c.publisher.inside.access.knows) _
      (added g (goal.at.invariant_of-publisher g c).After-swap),
)

pub returns : goal.returns
returns g c = ap known_in (added g (goal.at.returns g c).After-swap) ∙ c.requires.named
