-- The objects of a kind, as a loop makes them before any event.
use Rattle.std.proofs.Common.{◌≡◌, ℕ, ◌+◌, ◌<◌, List, [], ◌∷◌, ◌++◌, append_assoc, drop, get_or, length, arith}
use Rattle.apex_machine.specs.services.Objects.{ObjectKind, objects_of}
use Rattle.apex_types.specs.Places.{map_places}
use Rattle.apex_types.proofs.Places.{map_places-drop}

-- those of the entries below this place are made
abbrev pub IsFilled : {C X W : Type 0} → ObjectKind C X W → List C → ℕ → ℕ → List X → Type 0
IsFilled kind entries place end items = record {
  many : end ≡ length entries;
  rest : items ++ map_places (kind.after []) place (drop place entries) ≡ objects_of kind [] entries;
}

-- one more
pub filled_next : {C X W : Type 0} (kind : ObjectKind C X W) (entries : List C) (nothing : C) (place end : ℕ) (items : List X)
    → IsFilled kind entries place end items → place < end
    → IsFilled kind entries (place + 1) end (items ++ kind.after [] place (get_or entries place nothing) ∷ [])
filled_next kind entries nothing place end items filled within =
    let inside : place < length entries = omega (arith, filled.many, within) in
    let next = map_places-drop (kind.after []) place entries place nothing inside in
    record { many = filled.many; rest = rw (append_assoc, ← next) filled.rest }
