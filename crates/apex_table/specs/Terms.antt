-- The terms in which the definitions and proofs of this crate speak: the values of a partition, and
-- the faults of a table.
pub use Rattle.apex_calls.specs.declared.Arguments.{Arguments}
pub use Rattle.apex_calls.specs.declared.Kind.{Kind}
pub use Rattle.apex_calls.specs.declared.Service.{Service}
pub use Rattle.apex_calls.specs.declared.Shape.{Shape}
pub use Rattle.apex_words.specs.declared.fault.Place.{Place}
pub use Rattle.apex_words.specs.declared.fault.TableFault.{TableFault}
pub use Rattle.apex_words.specs.declared.key.Key.{Key}
pub use Rattle.apex_words.specs.declared.subject.Subject.{Subject}
pub use Rattle.apex_machine.specs.declared.records.Attributes.{Attributes}
pub use Rattle.apex_types.specs.declared.calls.Call.{Call}
pub use Rattle.apex_types.specs.declared.modes.DeadlineType.{DeadlineType}
pub use Rattle.apex_types.specs.declared.modes.Discipline.{Discipline}
pub use Rattle.apex_types.specs.declared.calls.Message.{Message}
pub use Rattle.apex_types.specs.declared.calls.Named.{Named}
pub use Rattle.apex_types.specs.declared.calls.ObjectCall.{ObjectCall}
pub use Rattle.apex_types.specs.declared.calls.Origin.{Origin}
pub use Rattle.apex_types.specs.declared.calls.RequestedMode.{RequestedMode}
pub use Rattle.apex_machine.specs.declared.profiles.Profile.{Profile}
pub use Rattle.apex_types.specs.declared.calls.Timeout.{Timeout}
