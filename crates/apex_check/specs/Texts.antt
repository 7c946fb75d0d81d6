-- The text that is checked: a table's text, the separator `%%` as a line of its own, and the lines
-- of a history.
use Rattle.std.specs.Prelude.{◌≡◌, ◌≢◌, ℕ, List, ◌++◌, codes}
use Rattle.std.specs.List.{AllByRecursion}
use Rattle.apex_machine.specs.table.Table.{Table}
use Rattle.apex_table.specs.Reading.{table_of}
use Rattle.apex_incoming.specs.Lines.{IsOneLine, ended, text_of}
use Rattle.std.specs.declared.result.Result.TheVariants.{Ok}

-- the line that ends a table's text
abbrev pub separator : List ℕ
separator = codes "%%"

-- a line of a table's text is any but the separator
abbrev pub IsOfTable : List ℕ → Type 0
IsOfTable line = IsOneLine line × (line ≢ separator)

-- whole lines of which none is the separator
pub record IsTableText (front : List ℕ) : Type 0 where
  pub lines : List (List ℕ)
  pub whole : front ≡ text_of lines
  pub others : AllByRecursion IsOfTable lines

-- no line of the text is the separator; a part without a line feed at its end is no line
pub record HasNoSeparator (text : List ℕ) : Type 0 where
  pub front : List ℕ
  pub rest : List ℕ
  pub whole : text ≡ front ++ rest
  pub lines : IsTableText front
  pub unended : IsOneLine rest

-- the text is that of a table up to the first separator, which these bytes follow
abbrev pub IsParted : List ℕ → List ℕ → List ℕ → Type 0
IsParted text front behind = IsTableText front × (text ≡ front ++ ended separator ++ behind)

-- the text begins with this table, by *reading*, and these bytes follow the separator
abbrev pub BeginsWithTable : List ℕ → Table → List ℕ → Type 0
BeginsWithTable text table behind =
    (front : List ℕ) × IsParted text front behind × (table_of front ≡ Ok table)
