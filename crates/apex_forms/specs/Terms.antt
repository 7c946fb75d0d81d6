-- The terms in which the definitions of this crate speak.
pub use Rattle.apex_forms.specs.declared.codes.WaitCode.{WaitCode}
pub use Rattle.apex_forms.specs.declared.forms.Contest.{Contest}
pub use Rattle.apex_forms.specs.declared.forms.Moments.{Moments}
pub use Rattle.apex_machine.specs.declared.holdings.Holding.{Holding}
pub use Rattle.apex_machine.specs.declared.records.Queue.{Queue}
pub use Rattle.apex_machine.specs.declared.records.Record.{Record}
pub use Rattle.apex_machine.specs.declared.records.Suspender.{Suspender}
pub use Rattle.apex_machine.specs.declared.records.Wait.{Wait}
pub use Rattle.apex_machine.specs.declared.works.OpenWork.{OpenWork}
pub use Rattle.apex_pace.specs.declared.paces.Pace.{Pace}
pub use Rattle.apex_types.specs.declared.calls.Message.{Message}
pub use Rattle.apex_types.specs.declared.calls.Origin.{Origin}
pub use Rattle.apex_types.specs.declared.modes.Mode.{Mode}
