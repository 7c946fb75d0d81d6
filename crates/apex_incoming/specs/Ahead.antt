-- The part of a text that is still to come: the bytes that were read ahead, and those that a reader
-- has left.
use Rattle.std.specs.Prelude.{◌≡◌, ℕ, ◌+◌, ◌*◌, ◌<◌, ◌≤◌, List, [], length, take, Option, IfSome}
use Rattle.std.specs.Io.KnownBytes.{IsAtEnd}
use Rattle.apex_types.specs.declared.limits.TheConstants.{MOST_LINE}
use Rattle.apex_incoming.specs.declared.pending.TheConstants.{READ_ROOM}
use Rattle.apex_incoming.specs.declared.pending.Next.{Next}
use Rattle.apex_incoming.specs.declared.pending.Next.TheVariants.{Line, Part, Rest, End}
use Rattle.apex_incoming.specs.Lines.{IsOneLine, ended}

-- the text is the part that is still to come, if that is known
abbrev pub IsAhead : List ℕ → Option (List ℕ) → Type 0
IsAhead text known = IfSome known (λ xs. text ≡ xs)

-- the bytes begin with a line of `end` bytes, and its line feed
abbrev pub IsFirstLine : ℕ → List ℕ → Type 0
IsFirstLine end bytes =
    IsOneLine (take end bytes) × (take (end + 1) bytes ≡ ended (take end bytes))
    × (end < length bytes)

-- the next part of a text, by the bytes that were read ahead and those that are left
abbrev pub Comes : Next → List ℕ → Option (List ℕ) → Type 0
Comes (Line end) pending left = IsFirstLine end pending
Comes Part pending left = IsOneLine pending × (MOST_LINE < length pending)
Comes Rest pending left =
    IsOneLine pending × (0 < length pending) × (length pending ≤ MOST_LINE) × IsAtEnd left
Comes End pending left = (pending ≡ []) × IsAtEnd left

-- a bound of the bytes that can still be taken: those that were read ahead, and the most bytes of a
-- read for each read that is left
abbrev pub fuel : List ℕ → ℕ → ℕ
fuel pending reads = length pending + READ_ROOM * reads
