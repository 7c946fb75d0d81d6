-- The thing that a call names, or the origin of a name that no entry has.
use Rattle.std.specs.Prelude.{Option, None, Some}
use Rattle.apex_types.specs.Terms.{Named, ObjectCall, Origin}
use Rattle.apex_types.specs.declared.calls.Named.TheVariants.{Known, Unknown}
use Rattle.apex_types.specs.declared.calls.ObjectCall.TheVariants.{Create, GetId, GetStatus, KindService}

-- the thing of a name, if an entry has the name
abbrev pub known : {I : Type 0} → Named I → Option I
known (Known i) = Some i
known (Unknown origin) = None

-- the thing that the call names, if it is an entry's
abbrev pub object_of : {I W : Type 0} → ObjectCall I W → Option I
object_of (Create named) = known named
object_of (GetId named) = known named
object_of (GetStatus i) = Some i
object_of (KindService i service) = Some i

-- the thing that the call creates, if it is a CREATE of an entry
abbrev pub creation_of : {I W : Type 0} → ObjectCall I W → Option I
creation_of (Create named) = known named
creation_of _ = None

-- the origin of the name, if no entry has it
abbrev pub unknown : {I : Type 0} → Named I → Option Origin
unknown (Known i) = None
unknown (Unknown origin) = Some origin

-- the origin of the name that the call gives, if no entry has it
abbrev pub object_origin : {I W : Type 0} → ObjectCall I W → Option Origin
object_origin (Create named) = unknown named
object_origin (GetId named) = unknown named
object_origin (GetStatus i) = None
object_origin (KindService i service) = None
