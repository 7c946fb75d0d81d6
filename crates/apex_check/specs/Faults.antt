-- The faults of a text, and those of a reader.
use Rattle.std.specs.Prelude.{◌≡◌, ◌++◌, codes, decimal, ℕ, List, Option, Result, MatchResult}
use Rattle.apex_history.specs.Counted.{one_more}
use Rattle.apex_check.specs.declared.verdicts.CheckFault.{CheckFault}
use Rattle.apex_check.specs.declared.verdicts.CheckFault.TheVariants.{Memory, Table, NoSeparator, BadLine, TooLong, Read, Write}
use Rattle.apex_words.specs.Fault as tables
use Rattle.apex_incoming.specs.Ahead.{IsAhead}
use Rattle.apex_check.specs.Verdicts.{IsAtFault}

-- a failed read is counted, and nothing else is
abbrev pub CountsRead : CheckFault → ℕ → ℕ → Type 0
CountsRead Read old new = new ≡ one_more old
CountsRead fault old new = new ≡ old

-- the same of an answer
abbrev pub CountsCheck : {T : Type 0} → Result T CheckFault → ℕ → ℕ → Type 0
CountsCheck result old new = MatchResult result (λ _. new ≡ old) (λ fault. CountsRead fault old new)

-- the part that is still to come has this fault, or memory was refused, or a read failed
abbrev pub IsFaultOf : Option (List ℕ) → CheckFault → Type 0
IsFaultOf known Memory = Unit {0}
IsFaultOf known Read = Unit {0}
IsFaultOf known fault = (text : List ℕ) × IsAhead text known × IsAtFault text fault

-- the text of a fault
abbrev pub fault_text : CheckFault → List ℕ
fault_text Memory = codes "out of memory"
fault_text (Table fault) = codes "table refused: " ++ tables.fault_text fault
fault_text NoSeparator = codes "no separator"
fault_text (BadLine line) = codes "history refused: BadLine at line " ++ decimal line
fault_text (TooLong line) = codes "history refused: TooLong at line " ++ decimal line
fault_text Read = codes "read failed"
fault_text Write = codes "write failed"
