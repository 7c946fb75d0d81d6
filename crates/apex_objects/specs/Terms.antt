-- The terms in which the definitions of this crate speak: the values of a partition.
pub use Rattle.apex_types.specs.declared.calls.Call.{Call}
pub use Rattle.apex_types.specs.declared.calls.Message.{Message}
pub use Rattle.apex_types.specs.declared.entries.Caller.{Caller}
pub use Rattle.apex_types.specs.declared.entries.Entry.{Entry}
pub use Rattle.apex_types.specs.declared.entries.Notice.{Notice}
pub use Rattle.apex_types.specs.declared.entries.Reply.{Reply}
pub use Rattle.apex_types.specs.declared.modes.Mode.{Mode}
pub use Rattle.apex_types.specs.declared.modes.State.{State}
pub use Rattle.apex_machine.specs.declared.holdings.Holding.{Holding}
pub use Rattle.apex_machine.specs.declared.records.Queue.{Queue}
pub use Rattle.apex_machine.specs.declared.records.Record.{Record}
pub use Rattle.apex_machine.specs.declared.records.Suspender.{Suspender}
pub use Rattle.apex_machine.specs.declared.records.Wait.{Wait}
