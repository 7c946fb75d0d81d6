-- The terms in which the definitions of this crate speak.
pub use Rattle.apex_words.specs.declared.fault.Place.{Place}
pub use Rattle.apex_words.specs.declared.fault.TableFault.{TableFault}
pub use Rattle.apex_words.specs.declared.key.Key.{Key}
pub use Rattle.apex_words.specs.declared.subject.Subject.{Subject}
pub use Rattle.apex_types.specs.declared.calls.RequestedMode.{RequestedMode}
pub use Rattle.apex_types.specs.declared.calls.Timeout.{Timeout}
