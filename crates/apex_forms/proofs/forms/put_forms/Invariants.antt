use Rattle.apex_forms.proofs.Forming.{IsForming}
use Rattle.apex_forms.proofs.forms.put_forms.Given as goal

abbrev pub invariant-loop-place : goal.invariant-loop-place
invariant-loop-place l = IsForming l.fn.store l.store l.now l.place
