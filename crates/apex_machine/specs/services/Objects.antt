-- Objects of any kind: the three services that each kind has, and how a call finds its object.
use Rattle.std.specs.Prelude.{ℕ, ◌+◌, Bool, List, [], ◌∷◌, Option, None, Some, not, slice_index_or, slice_set}
use Rattle.apex_machine.specs.Terms.{Caller, Entry, ObjectCall, Reply}
use Rattle.apex_types.specs.declared.calls.ObjectCall.TheVariants.{Create, GetId, GetStatus, KindService}
use Rattle.apex_types.specs.declared.entries.Reply.TheVariants.{Value}
use Rattle.apex_types.specs.declared.entries.ReturnCode.TheVariants.{NoAction, InvalidParam, InvalidConfig, InvalidMode}
use Rattle.apex_types.specs.Calls.{object_of}
use Rattle.apex_types.specs.Places.{map_places}
use Rattle.apex_types.specs.Modes.{is_normal}
use Rattle.apex_machine.specs.processes.Roster.{Roster}
use Rattle.apex_machine.specs.services.Rows.{Outcome, replied, refused, accepted, guarded, ◌⟶◌, within}

-- a kind of object: C is its entry in the table, X the object as its services see it, W its own
-- services
pub record ObjectKind (C X W : Type 0) : Type 0 where
  -- the object at a place past the end of the table
  pub absent : X
  pub created : X → Bool
  -- the object once it is created
  pub made : X → X
  -- the status of the object at a place
  pub status : Roster → X → ℕ → Reply
  -- the services of this kind alone, on the object at a place
  pub service : Roster → X → ℕ → Caller → W → Outcome X
  -- the object at a place as a history leaves it
  pub after : List Entry → ℕ → C → X

-- all objects of the kind, read off a whole history
abbrev pub objects_of : {C X W : Type 0} → ObjectKind C X W → List Entry → List C → List X
objects_of kind history configs = map_places (kind.after history) 0 configs

-- CREATE of a kind
abbrev pub create : {C X W : Type 0} → ObjectKind C X W → Roster → X → Outcome X
create kind roster object =
    guarded roster object (is_normal roster.mode ⟶ InvalidMode ∷ kind.created object ⟶ NoAction
    ∷ [])
    (accepted roster (kind.made object) [])

-- GET_ID of a kind: users see the place counted from 1
abbrev pub get_id : {C X W : Type 0} → ObjectKind C X W → Roster → X → ℕ → Outcome X
get_id kind roster object place =
    guarded roster object (not (kind.created object) ⟶ InvalidConfig ∷ [])
    (replied roster object (Value (place + 1)))

-- GET_STATUS of a kind
abbrev pub get_status : {C X W : Type 0} → ObjectKind C X W → Roster → X → ℕ → Outcome X
get_status kind roster object place =
    guarded roster object (not (kind.created object) ⟶ InvalidParam ∷ [])
    (replied roster object (kind.status roster object place))

-- any service of a kind, on the object at a place
abbrev pub object_service : {C X W : Type 0} → ObjectKind C X W → Roster → X → ℕ → Caller
    → ObjectCall ℕ W → Outcome X
object_service kind roster object place caller (Create named) = create kind roster object
object_service kind roster object place caller (GetId named) = get_id kind roster object place
object_service kind roster object place caller (GetStatus i) = get_status kind roster object place
object_service kind roster object place caller (KindService i service) =
    kind.service roster object place caller service

-- a call of a name that is no entry's: CREATE tests the mode first
abbrev pub no_entry : {X W : Type 0} → Roster → X → ObjectCall ℕ W → Outcome X
no_entry roster objects (Create named) =
    guarded roster objects (is_normal roster.mode ⟶ InvalidMode ∷ [])
    (refused roster objects InvalidConfig)
no_entry roster objects _ = refused roster objects InvalidConfig

-- a call on the object at this place, or on none
abbrev pub deed_at : {C X W : Type 0} → ObjectKind C X W → Roster → List X → Caller → ObjectCall ℕ W
    → Option ℕ → Outcome (List X)
deed_at kind roster objects caller call None = no_entry roster objects call
deed_at kind roster objects caller call (Some i) =
    within (slice_set objects i)
    (object_service kind roster (slice_index_or objects i kind.absent) i caller call)

-- a call on the objects of a kind
abbrev pub object_deed : {C X W : Type 0} → ObjectKind C X W → Roster → List X → Caller
    → ObjectCall ℕ W → Outcome (List X)
object_deed kind roster objects caller call =
    deed_at kind roster objects caller call (object_of call)
