-- The terms in which the definitions of this crate speak.
pub use Rattle.apex_types.specs.declared.calls.Call.{Call}
pub use Rattle.apex_types.specs.declared.calls.Message.{Message}
pub use Rattle.apex_types.specs.declared.calls.ObjectCall.{ObjectCall}
pub use Rattle.apex_types.specs.declared.calls.Origin.{Origin}
pub use Rattle.apex_types.specs.declared.calls.Timeout.{Timeout}
pub use Rattle.apex_machine.specs.declared.holdings.Holding.{Holding}
pub use Rattle.apex_machine.specs.declared.records.Attributes.{Attributes}
pub use Rattle.apex_machine.specs.declared.records.Queue.{Queue}
pub use Rattle.apex_words.specs.declared.fault.Section.{Section}
pub use Rattle.apex_warnings.specs.declared.acts.Act.{Act}
pub use Rattle.apex_warnings.specs.declared.objects.Group.{Group}
pub use Rattle.apex_warnings.specs.declared.process_warnings.ProcessWarning.{ProcessWarning}
pub use Rattle.apex_warnings.specs.declared.step_warnings.StepWarning.{StepWarning}
pub use Rattle.apex_warnings.specs.declared.warnings.Warning.{Warning}
