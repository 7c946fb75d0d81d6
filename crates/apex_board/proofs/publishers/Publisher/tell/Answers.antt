use Rattle.std.proofs.Common.{◌≡◌, List, Some, ap, sym, ◌∙◌, subst}
use mathlib.Core.List.{IsPrefix}
use Rattle.apex_types.specs.declared.entries.Entry.{Entry}
use Rattle.apex_board.specs.Access.{Held, MayHear, MaySplit, MayTurn}
use Rattle.apex_board.specs.Cells.{Finds, HasFound, IsKept, known_in, reader_of, told_in}
use Rattle.apex_board.specs.Fronts.{Front as FrontValue, IsFrontAfter}
use Rattle.apex_board.specs.declared.law.View.{View}
use Rattle.apex_board.specs.declared.law.View.TheVariants.{Publishes, Spent}
use Rattle.apex_board.proofs.Keeps.{finds, hears, leaves, tells}
use Rattle.apex_board.proofs.Views.{publishes_known, reads_known, same_cell, still_named, told_of_seen}
use Rattle.apex_board.proofs.Words.{front_cores}
use Rattle.apex_board.proofs.publishers.Publisher.tell.Given.{Over}
use Rattle.apex_board.proofs.publishers.Publisher.tell.Goals.{After-load-words}
use Rattle.apex_board.proofs.publishers.Publisher.tell.Goals as goal

-- the publisher reads the words of the front after its own history
found : (g : Over) (c : After-load-words g)
    → HasFound g.P.Naming.table (known_in c.self.inside.access.knows) c.args.reader c.load-words.result c.load-words.new.self.knows
found g c =
    let told = told_of_seen c.self.invariant.1 c.into_access.ensures.knows (ap (λ (h : Held). h.knows) c.hear-cell.ensures.kept) in
    subst (λ (v : View). Finds v c.load-words.result c.load-words.new.self.knows) told c.load-words.ensures.shown

pub hear-cell-requires-clause-same : goal.hear-cell-requires-clause-same
hear-cell-requires-clause-same g c = same_cell _ _ _ c.into_access.ensures.name c.self.invariant.0

pub hear-cell-requires-clause-leaves : goal.hear-cell-requires-clause-leaves
hear-cell-requires-clause-leaves g c =
    subst (λ (v : View). MaySplit IsKept v Spent v) (sym c.into_access.ensures.knows) (leaves g.P.Naming.table c.args.reader)

pub hear-cell-requires-clause-hears : goal.hear-cell-requires-clause-hears
hear-cell-requires-clause-hears g c =
    let table = g.P.Naming.table in
    let history = known_in c.self.inside.access.knows in
    let before = told_in c.self.inside.access.knows in
    subst (λ (v : View). MayHear IsKept v c.into_access.result.knows) (sym c.self.invariant.1)
    (subst (λ (w : View). MayHear IsKept (Publishes table history before) w) (sym c.into_access.ensures.knows)
    (hears table history before c.args.reader))

pub load-words-requires : goal.load-words-requires
load-words-requires g c =
    let told = told_of_seen c.self.invariant.1 c.into_access.ensures.knows (ap (λ (h : Held). h.knows) c.hear-cell.ensures.kept) in
    subst (λ (v : View). MayTurn IsKept v (λ words. words) (λ before words same after. Finds before words after)) (sym told)
    (finds g.P.Naming.table (known_in c.self.inside.access.knows) c.args.reader)

pub give-access-requires-clause-same : goal.give-access-requires-clause-same
give-access-requires-clause-same g c =
    c.hear-cell.ensures.cell
    ∙ sym (ap (λ (h : Held). h.cell) c.hear-cell.ensures.kept)
    ∙ sym c.load-words.ensures.same

pub give-access-requires-clause-rule : goal.give-access-requires-clause-rule
give-access-requires-clause-rule g c =
    subst (λ (v : View). MaySplit IsKept v v (reader_of v))
    (sym (found g (goal.at.give-access-requires-clause-rule g c).After-load-words).view)
    (tells g.P.Naming.table (known_in c.self.inside.access.knows) c.args.reader)

pub from_words-requires : goal.from_words-requires
from_words-requires g c =
    let shows = (found g (goal.at.from_words-requires g c).After-load-words).shows in
    (shows.front, shows.written, shows.fits, front_cores _ _ shows.front shows.after ∙ sym c.cores-cores.ensures)

pub returns-clause-front : goal.returns-clause-front
returns-clause-front g c =
    let table = g.P.Naming.table in
    let shows = (found g (goal.at.returns-clause-front g c).After-load-words).shows in
    let is : c.from_words.result ≡ shows.front =
    c.from_words.ensures shows.front shows.written shows.fits (front_cores _ _ shows.front shows.after ∙ sym c.cores-cores.ensures) in
    subst (λ (f : FrontValue). IsFrontAfter table c.args.self.now f) (sym is)
    (subst (λ (l : List Entry). IsFrontAfter table l shows.front) c.self.view_is shows.after)

-- the access stays one to the partition's cell
cell_stays : (g : Over) (c : After-load-words g) → g.P.Naming.cell ≡ Some c.load-words.new.self.cell
cell_stays g c =
    still_named _ _ _ c.self.invariant.0
    (c.load-words.ensures.same ∙ ap (λ (h : Held). h.cell) c.hear-cell.ensures.kept)

pub new-requires-clause-name : goal.new-requires-clause-name
new-requires-clause-name g c =
    cell_stays g (goal.at.new-requires-clause-name g c).After-load-words
    ∙ ap (λ (h : Held). Some h.cell) (sym c.give-access.ensures.given)

pub new-requires-clause-knows : goal.new-requires-clause-knows
new-requires-clause-knows g c =
    let view = (found g (goal.at.new-requires-clause-knows g c).After-load-words).view in
    reads_known g.P.Naming.table (known_in c.self.inside.access.knows) _
    (ap (λ (h : Held). h.knows) c.give-access.ensures.given ∙ ap reader_of view)

pub invariant_of-self : goal.invariant_of-self
invariant_of-self g c =
    let kept = c.give-access.ensures.kept in
    let view = (found g (goal.at.invariant_of-self g c).After-load-words).view in (
      cell_stays g (goal.at.invariant_of-self g c).After-load-words ∙ ap (λ (h : Held). Some h.cell) (sym kept),
      publishes_known g.P.Naming.table (known_in c.self.inside.access.knows) c.args.reader _
          (ap (λ (h : Held). h.knows) kept ∙ view),
    )

pub returns-clause-same : goal.returns-clause-same
returns-clause-same g c =
    let view = (found g (goal.at.returns-clause-same g c).After-load-words).view in
    ap known_in (ap (λ (h : Held). h.knows) c.give-access.ensures.kept ∙ view) ∙ c.self.view_is

pub returns-clause-saw : goal.returns-clause-saw
returns-clause-saw g c =
    subst (λ (l : List Entry). IsPrefix c.args.reader l) c.self.view_is (found g (goal.at.returns-clause-saw g c).After-load-words).saw

pub returns-clause-told : goal.returns-clause-told
returns-clause-told g c =
    let view = (found g (goal.at.returns-clause-told g c).After-load-words).view in
    c.new.ensures ∙ ap known_in (ap (λ (h : Held). h.knows) c.give-access.ensures.given ∙ ap reader_of view) ∙ c.self.view_is
