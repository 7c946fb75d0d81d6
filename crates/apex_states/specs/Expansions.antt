-- What was found in expansions, one after the other.
use Rattle.std.specs.Prelude.{◌≡◌, ℕ, List}
use Rattle.std.specs.List.{flat_map}
use Rattle.apex_states.specs.declared.expansions.Expansion.{Expansion}
use Rattle.apex_states.specs.declared.states.Origin.{Origin}
use Rattle.apex_states.specs.Finds.{Found}

-- the states of the expansion have this many words
abbrev pub IsWide : ℕ → Expansion → Type 0
IsWide width expansion = expansion.finds.width ≡ width

-- the states that were found in the expansions
abbrev pub states_of : List Expansion → List (List ℕ)
states_of expansions = flat_map (λ (expansion : Expansion). expansion.finds.states) expansions

-- the origins of these states
abbrev pub origins_of : List Expansion → List Origin
origins_of expansions = flat_map (λ (expansion : Expansion). expansion.finds.origins) expansions

-- all that was found in the expansions, in states of this many words
abbrev pub found_in : ℕ → List Expansion → Found
found_in width expansions =
    record { width = width; states = states_of expansions; origins = origins_of expansions }
