-- The terms in which the definitions of this crate speak.
pub use Rattle.apex_calls.specs.declared.catalogue.Service.{Service}
pub use Rattle.apex_machine.specs.declared.records.Record.{Record}
pub use Rattle.apex_machine.specs.declared.works.OpenWork.{OpenWork}
pub use Rattle.apex_pace.specs.declared.paces.Pace.{Pace}
pub use Rattle.apex_questions.specs.declared.Fact.{Fact}
pub use Rattle.apex_search.specs.declared.questions.Question.{Question}
pub use Rattle.apex_types.specs.declared.calls.Call.{Call}
pub use Rattle.apex_types.specs.declared.entries.Caller.{Caller}
pub use Rattle.apex_types.specs.declared.entries.Event.{Event}
pub use Rattle.apex_types.specs.declared.entries.Notice.{Notice}
pub use Rattle.apex_types.specs.declared.entries.Reply.{Reply}
pub use Rattle.apex_types.specs.declared.entries.ReturnCode.{ReturnCode}
pub use Rattle.apex_types.specs.declared.modes.DeadlineType.{DeadlineType}
pub use Rattle.apex_types.specs.declared.modes.Mode.{Mode}
