-- The faults of a text that has to begin with a table, and of its reader.
use Rattle.std.specs.Prelude.{◌≡◌, ◌≢◌, ℕ, List, Option, Result, MatchResult, Err}
use Rattle.apex_history.specs.Counted.{one_more}
use Rattle.apex_incoming.specs.Ahead.{IsAhead}
use Rattle.apex_table.specs.Reading.{table_of}
use Rattle.apex_words.specs.declared.TableFault.{TableFault}
use Rattle.apex_words.specs.declared.TableFault.TheVariants as table_fault
use Rattle.apex_check.specs.Texts.{HasNoSeparator, IsParted}
use Rattle.apex_check.specs.declared.tables.LeadingFault.{LeadingFault}
use Rattle.apex_check.specs.declared.tables.LeadingFault.TheVariants.{Memory, Table, NoSeparator, Read}

-- a failed read is counted, and nothing else is
abbrev pub CountsLeadingRead : LeadingFault → ℕ → ℕ → Type 0
CountsLeadingRead Read old new = new ≡ one_more old
CountsLeadingRead fault old new = new ≡ old

-- the same of an answer
abbrev pub CountsLeading : {T : Type 0} → Result T LeadingFault → ℕ → ℕ → Type 0
CountsLeading result old new =
    MatchResult result (λ _. new ≡ old) (λ fault. CountsLeadingRead fault old new)

-- The text does not begin with a table: it has no separator, or what is before it is no table.
pub data LacksTable (text : List ℕ) : LeadingFault → Type 0 where
  without_separator : HasNoSeparator text → LacksTable text NoSeparator
  without_table : (front behind : List ℕ) → {fault : TableFault} → IsParted text front behind
      → table_of front ≡ Err fault → fault ≢ table_fault.Memory → LacksTable text (Table fault)

-- the part that is still to come lacks a table with this fault, or memory was refused, or a read
-- failed
abbrev pub IsLeadingFaultOf : Option (List ℕ) → LeadingFault → Type 0
IsLeadingFaultOf known Memory = Unit {0}
IsLeadingFaultOf known Read = Unit {0}
IsLeadingFaultOf known fault = (text : List ℕ) × IsAhead text known × LacksTable text fault
