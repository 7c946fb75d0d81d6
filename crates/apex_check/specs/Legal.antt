-- Legal texts.
use Rattle.std.specs.Prelude.{◌≡◌, ◌↔◌, ℕ, List, [], length, Option, Some, Result, Ok, Err}
use Rattle.apex_check.specs.Terms.{Event}
use Rattle.apex_machine.specs.table.Table.{Table}
use Rattle.apex_check.specs.declared.verdicts.Verdict.{Verdict}
use Rattle.apex_check.specs.declared.verdicts.Verdict.TheVariants.{Legal}
use Rattle.apex_check.specs.declared.verdicts.CheckFault.{CheckFault}
use Rattle.apex_check.specs.declared.verdicts.CheckFault.TheVariants.{Memory, Read, Write}
use Rattle.apex_check.specs.Texts.{BeginsWithTable}
use Rattle.apex_check.specs.Histories.{Follows}

-- The text is a table, `%%`, and n lines that are *lines* of *run* of that table for the events
-- that the lines name.
pub record IsLegal (text : List ℕ) (n : ℕ) : Type 0 where
  pub table : Table
  pub behind : List ℕ
  pub events : List Event
  pub begins : BeginsWithTable text table behind
  pub follows : Follows table behind events []
  pub many : length events ≡ n

-- memory was not refused, and no read or write failed
abbrev pub IsOfText : Result Verdict CheckFault → Type 0
IsOfText (Err Memory) = ⊥
IsOfText (Err Read) = ⊥
IsOfText (Err Write) = ⊥
IsOfText answer = Unit {0}

-- the verdict on a known text is legal exactly if the text is, unless memory was refused, or a read
-- or a write failed
abbrev pub SaysLegal : Option (List ℕ) → Result Verdict CheckFault → Type 0
SaysLegal known answer =
    (text : List ℕ) (n : ℕ) → known ≡ Some text → IsOfText answer → (answer ≡ Ok (Legal n))
    ↔ IsLegal text n
