-- The mutexes that a process owns, in the order in which it acquired them (this profile).
use Rattle.std.specs.Prelude.{◌≡◌, ℕ, ◌-◌, ◌≤◌, Bool, true, false, List, [], ◌∷◌, ◌++◌, length, take, replicate, map, filter, find, fold, Option, max, ◌==◌, nat_lt, not, if◌then◌else◌}
use Rattle.std.specs.List.{list_any}
use Rattle.apex_types.specs.declared.limits.TheConstants.{MOST_OWNED}
use Rattle.apex_machine.specs.declared.holdings.Holding.{Holding}

-- the mutex that is held so is mutex m
abbrev pub is_of : ℕ → Holding → Bool
is_of m holding = holding.mutex == m

-- no mutex is held
abbrev pub holds_none : List Holding → Bool
holds_none [] = true
holds_none (holding ∷ more) = false

-- mutex m is held
abbrev pub holds : ℕ → List Holding → Bool
holds m held = list_any (is_of m) held

-- the holding of mutex m, if it is held
abbrev pub holding_of : ℕ → List Holding → Option Holding
holding_of m held = find (is_of m) held

-- a base priority, raised to the greatest ceiling that is held
abbrev pub raised : ℕ → List Holding → ℕ
raised base held = fold (λ most (holding : Holding). max most holding.ceiling) base held

-- the holding, but at this depth if it is of mutex m
abbrev pub at_depth : ℕ → ℕ → Holding → Holding
at_depth m depth holding = if is_of m holding then record holding { depth = depth } else holding

-- the same, but mutex m at this depth
abbrev pub with_depth : ℕ → ℕ → List Holding → List Holding
with_depth m depth held = map (at_depth m depth) held

-- the same without mutex m
abbrev pub without : ℕ → List Holding → List Holding
without m held = filter (λ holding. not (is_of m holding)) held

-- the holding among others that are in order of the mutexes' numbers
abbrev pub inserted : Holding → List Holding → List Holding
inserted holding [] = holding ∷ []
inserted holding (other ∷ others) =
    if nat_lt holding.mutex other.mutex then holding ∷ other ∷ others
    else other ∷ inserted holding others

-- in order of the mutexes' numbers
abbrev pub in_order : List Holding → List Holding
in_order [] = []
in_order (holding ∷ others) = inserted holding (in_order others)

-- the filler of the places of those that are not held
abbrev pub filler : Holding
filler = record { mutex = 0; ceiling = 0; depth = 0 }

-- what is held, with fillers behind it up to the most mutexes that a process may own
abbrev pub padded : List Holding → List Holding
padded held = held ++ replicate (MOST_OWNED - length held) filler

-- the first n of these places are held, and fillers are behind them
pub record AreHeldIn (n : ℕ) (places : List Holding) : Type 0 where
  pub within : n ≤ length places
  pub few : n ≤ MOST_OWNED
  pub fillers : places ≡ padded (take n places)
