-- The terms in which the definitions and proofs of this crate speak: the values of a partition.
pub use Rattle.apex_calls.specs.declared.Arguments.{Arguments}
pub use Rattle.apex_calls.specs.declared.Service.{Service}
pub use Rattle.apex_calls.specs.declared.Shape.{Shape}
pub use Rattle.apex_types.specs.declared.calls.Call.{Call}
pub use Rattle.apex_types.specs.declared.entries.Caller.{Caller}
pub use Rattle.apex_types.specs.declared.entries.Entry.{Entry}
pub use Rattle.apex_types.specs.declared.entries.Notice.{Notice}
pub use Rattle.apex_types.specs.declared.entries.Reply.{Reply}
pub use Rattle.apex_types.specs.declared.entries.Who.{Who}
