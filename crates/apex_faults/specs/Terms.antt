-- The terms in which the definitions of this crate speak.
pub use Rattle.apex_words.specs.declared.fault.Place.{Place}
pub use Rattle.apex_words.specs.declared.fault.Section.{Section}
pub use Rattle.apex_words.specs.declared.fault.TableFault.{TableFault}
pub use Rattle.apex_words.specs.declared.key.Key.{Key}
pub use Rattle.apex_words.specs.declared.subject.Part.{Part}
pub use Rattle.apex_words.specs.declared.subject.Subject.{Subject}
pub use Rattle.apex_faults.specs.declared.findings.Finding.{Finding}
pub use Rattle.apex_faults.specs.declared.paths.PathStep.{PathStep}
