-- The terms in which the definitions and proofs of this crate speak: the values of a partition, and
-- the figures of its report.
pub use Rattle.apex_json.specs.declared.Form.{Form}
pub use Rattle.apex_types.specs.declared.calls.Call.{Call}
pub use Rattle.apex_types.specs.declared.entries.Caller.{Caller}
pub use Rattle.apex_types.specs.declared.entries.Entry.{Entry}
pub use Rattle.apex_types.specs.declared.entries.Event.{Event}
pub use Rattle.apex_types.specs.declared.entries.Notice.{Notice}
pub use Rattle.apex_types.specs.declared.entries.Reply.{Reply}
pub use Rattle.apex_types.specs.declared.entries.ReturnCode.{ReturnCode}
pub use Rattle.apex_types.specs.declared.entries.Who.{Who}
pub use Rattle.apex_machine.specs.declared.records.Queue.{Queue}
pub use Rattle.apex_calls.specs.declared.catalogue.Service.{Service}
pub use Rattle.apex_report.specs.declared.cores.CoreFigures.{CoreFigures}
pub use Rattle.apex_report.specs.declared.job_figures.JobFigures.{JobFigures}
pub use Rattle.apex_report.specs.declared.jobs.Job.{Job}
pub use Rattle.apex_report.specs.declared.objects.Level.{Level}
pub use Rattle.apex_report.specs.declared.objects.ObjectFigures.{ObjectFigures}
pub use Rattle.apex_report.specs.declared.ownerships.Owner.{Owner}
pub use Rattle.apex_report.specs.declared.ownerships.Ownership.{Ownership}
pub use Rattle.apex_report.specs.declared.processes.ProcessFigures.{ProcessFigures}
pub use Rattle.apex_report.specs.declared.refusals.Refusals.{Refusals}
pub use Rattle.apex_report.specs.declared.services.ServiceFigures.{ServiceFigures}
pub use Rattle.apex_report.specs.declared.waits.Waking.{Waking}
