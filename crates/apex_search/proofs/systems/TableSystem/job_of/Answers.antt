-- The job is read off the form, and there is one.
use Rattle.std.proofs.Common.{◌∙◌, sym}
use Rattle.apex_choices.specs.Counts.{paced_in}
use Rattle.apex_search.proofs.Responses.{has_job, job_is}
use Rattle.apex_search.proofs.systems.TableSystem.job_of.Goals as goal

pub unreachable-requires : goal.unreachable-requires
unreachable-requires c =
    has_job c.args.self.now c.args.process c.requires.0 c.args.path.now c.requires.1 c.in_ok-schedule.schedule.items
    c.in_ok-schedule.ensures.events c.in_ok-schedule.ensures.within (paced_in c.in_ok-schedule.form) c.in_ok-schedule.ensures.form
    (sym c.last_job.ensures ∙ c.in-None.is)

pub returns : goal.returns
returns c =
    job_is c.args.self.now c.args.process c.requires.0 c.args.path.now c.requires.1 c.in_ok-schedule.schedule.items
    c.in_ok-schedule.ensures.events c.in_ok-schedule.ensures.within (paced_in c.in_ok-schedule.form) c.in_ok-schedule.ensures.form
    c.in-Some.job (sym c.last_job.ensures ∙ c.in-Some.is)
