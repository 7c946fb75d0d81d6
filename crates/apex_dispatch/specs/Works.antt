-- The work that each core has begun, as the kernel keeps it.
use Rattle.std.specs.Prelude.{ℕ, false, List, Option, None, slice_index_or}
use Rattle.apex_laws.specs.Terms.{OpenWork}

-- the work that the core has begun and not ended
abbrev pub work_at : List (Option OpenWork) → ℕ → Option OpenWork
work_at works core = slice_index_or works core None

-- work whose process has lost the core
abbrev pub broken : OpenWork → OpenWork
broken o = record { work = o.work; unbroken = false }
