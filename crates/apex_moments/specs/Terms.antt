-- The terms in which the definitions and proofs of this crate speak.
pub use Rattle.apex_types.specs.declared.entries.Caller.{Caller}
pub use Rattle.apex_types.specs.declared.entries.Entry.{Entry}
pub use Rattle.apex_types.specs.declared.entries.Event.{Event}
pub use Rattle.apex_types.specs.declared.entries.Notice.{Notice}
pub use Rattle.apex_types.specs.declared.entries.Reply.{Reply}
pub use Rattle.apex_types.specs.declared.modes.State.{State}
pub use Rattle.apex_machine.specs.declared.records.Wait.{Wait}
pub use Rattle.apex_moments.specs.declared.moments.Cell.{Cell}
