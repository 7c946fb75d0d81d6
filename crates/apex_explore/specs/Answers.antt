-- What an answer of a search says.
use Rattle.std.specs.Prelude.{ℕ, ◌+◌}
use Rattle.apex_explore.specs.declared.answers.Answer.{Answer}
use Rattle.apex_explore.specs.declared.answers.Answer.TheVariants.{Found, Closed, Full}
use Rattle.apex_explore.specs.Paths.{IsShortestHit, NoHit, NoHitWithin, ReachesExactly, ReachesWithin}
use Rattle.apex_explore.specs.Systems.{Step}

-- the statement of an answer about a search from the state k, with room for this many states
abbrev pub Says : {K : Type 0} → (K → ℕ → Step K) → K → ℕ → Answer → Type 0
Says step k room (Found path) = IsShortestHit step k path.items
Says step k room (Closed states) = NoHit step k × ReachesExactly step k states
Says step k room (Full depth) =
    NoHitWithin step k depth × ReachesWithin step k (depth + 1) (room + 1)
