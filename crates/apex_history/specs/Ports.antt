-- The bytes that a reader has left and a writer holds, and the numbers of their calls that failed.
use Rattle.std.specs.Prelude.{◌≡◌, ℕ, List, Option, IfSome}
use Rattle.apex_history.specs.Counted.{one_more}

-- the bytes that the reader has left and that the writer holds, if they are known, and the numbers
-- of reads and writes that failed
pub record Ports : Type 0 where
  pub left : Option (List ℕ)
  pub held : Option (List ℕ)
  pub failed_reads : ℕ
  pub failed_writes : ℕ

abbrev pub ports : Option (List ℕ) → Option (List ℕ) → ℕ → ℕ → Ports
ports left held failed_reads failed_writes =
    record { left = left; held = held; failed_reads = failed_reads; failed_writes = failed_writes }

-- no read and no write failed
abbrev pub NoneFails : Ports → Ports → Type 0
NoneFails before after =
    (after.failed_reads ≡ before.failed_reads) × (after.failed_writes ≡ before.failed_writes)

-- a read failed, and no write
abbrev pub AReadFails : Ports → Ports → Type 0
AReadFails before after =
    (after.failed_reads ≡ one_more before.failed_reads)
    × (after.failed_writes ≡ before.failed_writes)

-- a write failed, and no read
abbrev pub AWriteFails : Ports → Ports → Type 0
AWriteFails before after =
    (after.failed_reads ≡ before.failed_reads)
    × (after.failed_writes ≡ one_more before.failed_writes)

-- the bytes are those that the reader had left, if these are known
abbrev pub IsLeft : List ℕ → Ports → Type 0
IsLeft bytes before = IfSome before.left (λ xs. bytes ≡ xs)
