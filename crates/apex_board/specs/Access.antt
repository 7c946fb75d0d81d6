-- What a contract sees of an access to the cell, and what the steps on it require.
use Rattle.std.specs.Prelude.{ℕ, List}
use Rattle.atomic_table.specs.Seated.{TableId}
use Rattle.crossbeam_utils.specs.Register.{Forks, Merges, Turns}
use Rattle.apex_board.specs.Cells.{told_of}
use Rattle.apex_board.specs.declared.law.View.{View}
use Rattle.apex_board.specs.declared.law.View.TheVariants.{Spent}

-- the cell to which it is an access, and what its pass knows
pub record Held : Type 0 where
  pub cell : TableId
  pub knows : View

-- what a rule says of the words and of what the passes know
abbrev pub Rule : Type 1
Rule = List ℕ → List View → Type 0

-- the rule lets any pass that knows this keep the left part, and give the right one to a new pass
abbrev pub MaySplit : Rule → View → View → View → Type 0
MaySplit rule knows left right = (pass : ℕ) → Forks rule pass knows left right

-- the rule lets any pass that knows this put `next` of the words in their place, which shows what `shown` says
abbrev pub MayTurn : Rule → View → (List ℕ → List ℕ) → (View → List ℕ → List ℕ → View → Type 0)
    → Type 0
MayTurn rule knows next shown = (pass : ℕ) → Turns rule pass knows next shown

-- the rule lets any pass that knows `knows` be told what another one knows
abbrev pub MayHear : Rule → View → View → Type 0
MayHear rule knows other =
    (pass given : ℕ) → Merges rule pass knows given other (told_of knows other) Spent
