-- The terms in which the definitions and proofs of this crate speak: the values of a partition.
pub use Rattle.apex_types.specs.declared.modes.Discipline.{Discipline}
pub use Rattle.apex_machine.specs.declared.holdings.Holding.{Holding}
pub use Rattle.apex_types.specs.declared.calls.Message.{Message}
pub use Rattle.apex_types.specs.declared.modes.Mode.{Mode}
pub use Rattle.apex_machine.specs.declared.records.Queue.{Queue}
pub use Rattle.apex_machine.specs.declared.records.Record.{Record}
pub use Rattle.apex_types.specs.declared.modes.State.{State}
pub use Rattle.apex_machine.specs.declared.records.Wait.{Wait}
