use Rattle.apex_forms.specs.Forms.{AreContests}
use Rattle.apex_forms.proofs.forms.put_contests.Given as goal

abbrev pub invariant-loop-place : goal.invariant-loop-place
invariant-loop-place l = AreContests l.store l.contests l.place
