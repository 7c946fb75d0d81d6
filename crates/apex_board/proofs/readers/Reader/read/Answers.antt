use Rattle.std.proofs.Common.{◌≡◌, List, ap, sym, ◌∙◌, subst}
use mathlib.Core.List.{IsPrefix}
use Rattle.apex_types.specs.declared.entries.Entry.{Entry}
use Rattle.apex_board.specs.Access.{MayTurn}
use Rattle.apex_board.specs.Cells.{HasSeen, IsKept, Sees, known_in}
use Rattle.apex_board.specs.Fronts.{Front as FrontValue, IsFrontAfter}
use Rattle.apex_board.specs.declared.law.View.{View}
use Rattle.apex_board.proofs.Keeps.{reads}
use Rattle.apex_board.proofs.Views.{reads_known, still_named}
use Rattle.apex_board.proofs.Words.{front_cores}
use Rattle.apex_board.proofs.readers.Reader.read.Given.{Over}
use Rattle.apex_board.proofs.readers.Reader.read.Goals.{After-load-words}
use Rattle.apex_board.proofs.readers.Reader.read.Goals as goal

-- the reader has seen the history after whose front the words are
seen : (g : Over) (c : After-load-words g)
    → HasSeen g.P.Naming.table (known_in c.self.inside.access.knows) c.load-words.result c.load-words.new.self.knows
seen g c = subst (λ (v : View). Sees v c.load-words.result c.load-words.new.self.knows) c.self.invariant.1 c.load-words.ensures.shown

pub load-words-requires : goal.load-words-requires
load-words-requires g c =
    subst (λ (v : View). MayTurn IsKept v (λ words. words) (λ before words same after. Sees before words after)) (sym c.self.invariant.1)
    (reads g.P.Naming.table (known_in c.self.inside.access.knows))

pub from_words-requires : goal.from_words-requires
from_words-requires g c =
    let shows = (seen g (goal.at.from_words-requires g c).After-load-words).shows in
    (shows.front, shows.written, shows.fits, front_cores _ _ shows.front shows.after ∙ sym c.self.invariant.2)

pub invariant_of-self : goal.invariant_of-self
invariant_of-self g c =
    let saw = seen g (goal.at.invariant_of-self g c).After-load-words in (
      still_named _ _ _ c.self.invariant.0 c.load-words.ensures.same,
      reads_known g.P.Naming.table saw.history _ saw.view,
      c.self.invariant.2,
    )

pub returns-clause-later : goal.returns-clause-later
returns-clause-later g c =
    let saw = seen g (goal.at.returns-clause-later g c).After-load-words in
    subst (λ (l : List Entry). IsPrefix l (known_in c.load-words.new.self.knows)) c.self.view_is
    (subst (λ (l : List Entry). IsPrefix (known_in c.self.inside.access.knows) l) (sym (ap known_in saw.view)) saw.later)

pub returns-clause-front : goal.returns-clause-front
returns-clause-front g c =
    let saw = seen g (goal.at.returns-clause-front g c).After-load-words in
    let shows = saw.shows in
    let is : c.from_words.result ≡ shows.front =
    c.from_words.ensures shows.front shows.written shows.fits (front_cores _ _ shows.front shows.after ∙ sym c.self.invariant.2) in
    subst (λ (f : FrontValue). IsFrontAfter g.P.Naming.table (known_in c.load-words.new.self.knows) f) (sym is)
    (subst (λ (l : List Entry). IsFrontAfter g.P.Naming.table l shows.front) (sym (ap known_in saw.view)) shows.after)
