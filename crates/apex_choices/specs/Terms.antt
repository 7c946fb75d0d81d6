-- The terms in which the definitions of this crate speak.
pub use Rattle.apex_machine.specs.declared.works.OpenWork.{OpenWork}
pub use Rattle.apex_pace.specs.declared.paces.Pace.{Pace}
pub use Rattle.apex_types.specs.declared.entries.Event.{Event}
