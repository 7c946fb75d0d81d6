-- The terms in which the definitions of this crate speak.
pub use Rattle.apex_types.specs.declared.calls.Origin.{Origin}
pub use Rattle.apex_words.specs.declared.fault.Place.{Place}
pub use Rattle.apex_words.specs.declared.fault.Section.{Section}
pub use Rattle.apex_words.specs.declared.fault.TableFault.{TableFault}
pub use Rattle.apex_words.specs.declared.subject.Subject.{Subject}
pub use Rattle.apex_warnings.specs.declared.step_warnings.StepWarning.{StepWarning}
pub use Rattle.apex_warnings.specs.declared.warnings.Warning.{Warning}
pub use Rattle.apex_remarks.specs.declared.remarks.Remark.{Remark}
pub use Rattle.apex_remarks.specs.declared.remarks.Severity.{Severity}
