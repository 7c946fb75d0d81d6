-- The terms in which the definitions of this crate speak.
pub use Rattle.apex_json.specs.declared.Form.{Form}
pub use Rattle.apex_words.specs.declared.fault.TableFault.{TableFault}
pub use Rattle.apex_words.specs.declared.subject.Part.{Part}
pub use Rattle.apex_words.specs.declared.subject.Subject.{Subject}
pub use Rattle.apex_remarks.specs.declared.remarks.Remark.{Remark}
pub use Rattle.apex_lint.specs.declared.reports.Report.{Report}
pub use Rattle.apex_lint.specs.declared.reports.LintVerdict.{LintVerdict}
