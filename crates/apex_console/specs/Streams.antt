-- The reader and the writers that the program is given, as its contracts see them.
use Rattle.std.specs.Prelude.{◌≡◌, ◌⊎◌, ℕ, List, Option}
use Rattle.std.specs.Io.KnownBytes.{Appends}
use Rattle.apex_history.specs.Counted.{AppendsBeginning, failures_of, inner_of, one_more}
use Rattle.apex_history.specs.Ports.{Ports, ports}
use Rattle.apex_history.specs.declared.counting.Counted.{Counted}

-- the bytes that the reader has left and that the writer holds, and the numbers of their failures
abbrev pub ports_of : {R W : Type 0} → (R → Option (List ℕ)) → (W → Option (List ℕ))
    → Counted R → Counted W → Ports
ports_of remaining contents reader writer =
    ports (remaining (inner_of reader)) (contents (inner_of writer))
    (failures_of reader) (failures_of writer)

-- the writer holds this text behind what it held before
abbrev pub HasWritten : {W : Type 0} → (W → Option (List ℕ)) → Counted W → Counted W → List ℕ
    → Type 0
HasWritten contents before after text =
    Appends (contents (inner_of before)) (contents (inner_of after)) text

-- the writer holds a prefix of this text behind what it held before
abbrev pub HasWrittenSome : {W : Type 0} → (W → Option (List ℕ)) → Counted W → Counted W → List ℕ
    → Type 0
HasWrittenSome contents before after text =
    AppendsBeginning (contents (inner_of before)) (contents (inner_of after)) text

-- a line was written whole, or a prefix of it if a write failed
abbrev pub Told : List ℕ → Option (List ℕ) → Option (List ℕ) → ℕ → ℕ → Type 0
Told line old new failures after =
    (Appends old new line × (after ≡ failures))
    ⊎ (AppendsBeginning old new line × (after ≡ one_more failures))
