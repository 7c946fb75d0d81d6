use Rattle.apex_report.specs.Members.{members_in}
use Rattle.apex_report.proofs.rows.put_refusals.Goals as goal

pub returns-clause-text : goal.returns-clause-text
unfolding members_in
returns-clause-text c =
    rw (c.from.ensures, c.from-2.ensures, c.from-3.ensures, c.from-4.ensures, c.from-5.ensures) at c.put_members.ensures.text
